-- What a loan says, where it is there.
use Rattle.std.proofs.Common.{◌≡◌, subst}
use Rattle.std.specs.Prelude.{Option, Some, IfSome}

abbrev pub if-there : {A : Type 0} (Q : A → Type 0) {r : Option A} {x : A} → IfSome r Q → r ≡ Some x → Q x
if-there Q held is = subst (λ z. IfSome z Q) is held
