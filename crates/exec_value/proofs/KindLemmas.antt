-- Of which kinds a datum is.
use Rattle.std.proofs.Common.{◌≡◌, false, ℤ, refl}
use Rattle.std.specs.Prelude.{IsTrue}
use Rattle.std.proofs.lemmas.Bool.{false≢true}
use Rattle.exec_value.specs.declared.kinds.Kind.{Kind}
use Rattle.exec_value.specs.declared.kinds.Kind.TheVariants.{Int as IntKind, Text as TextKind, Row as RowKind, MaybeInt, MaybeText}
use Rattle.exec_value.specs.declared.data.Datum.TheVariants.{Int, Text, Row, SomeInt, SomeText, Nothing}
use Rattle.exec_value.specs.declared.nums.Nums.{Nums}
use Rattle.exec_value.specs.declared.txt.Txt.{Txt}
use Rattle.exec_value.specs.Kinds.{HasKind}

-- a test that says no, where that is so
pub says-no : {P : Type 0} → (P → ⊥) → (IsTrue false → P) × (P → IsTrue false)
says-no never = (λ yes. absurd (false≢true yes), λ holds. absurd (never holds))

pub int-kind : (n : ℤ) (k : Kind) → HasKind (Int n) k → k ≡ IntKind
int-kind n IntKind has = refl
int-kind n TextKind has = absurd has
int-kind n RowKind has = absurd has
int-kind n MaybeInt has = absurd has
int-kind n MaybeText has = absurd has

pub text-kind : (t : Txt) (k : Kind) → HasKind (Text t) k → k ≡ TextKind
text-kind t IntKind has = absurd has
text-kind t TextKind has = refl
text-kind t RowKind has = absurd has
text-kind t MaybeInt has = absurd has
text-kind t MaybeText has = absurd has

pub row-kind : (r : Nums) (k : Kind) → HasKind (Row r) k → k ≡ RowKind
row-kind r IntKind has = absurd has
row-kind r TextKind has = absurd has
row-kind r RowKind has = refl
row-kind r MaybeInt has = absurd has
row-kind r MaybeText has = absurd has

pub some_int-kind : (n : ℤ) (k : Kind) → HasKind (SomeInt n) k → k ≡ MaybeInt
some_int-kind n IntKind has = absurd has
some_int-kind n TextKind has = absurd has
some_int-kind n RowKind has = absurd has
some_int-kind n MaybeInt has = refl
some_int-kind n MaybeText has = absurd has

pub some_text-kind : (t : Txt) (k : Kind) → HasKind (SomeText t) k → k ≡ MaybeText
some_text-kind t IntKind has = absurd has
some_text-kind t TextKind has = absurd has
some_text-kind t RowKind has = absurd has
some_text-kind t MaybeInt has = absurd has
some_text-kind t MaybeText has = refl

pub nothing-kind : (k : Kind) → (k ≡ MaybeInt → ⊥) → (k ≡ MaybeText → ⊥) →
    HasKind Nothing k → ⊥
nothing-kind IntKind int text has = has
nothing-kind TextKind int text has = has
nothing-kind RowKind int text has = has
nothing-kind MaybeInt int text has = int refl
nothing-kind MaybeText int text has = text refl
