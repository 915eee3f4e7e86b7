-- Sentences of which a test chooses one.
use Rattle.std.proofs.Common.{◌≡◌, IfOk, Result, Bool, true, false, if◌then◌else◌, refl, subst}

-- what was said is said under another name too
pub said_as : {A B E : Type 0} (f : A → B) (r : Result A E) {x y : B} → x ≡ y → IfOk r (λ a. f a ≡ x) → IfOk r (λ a. f a ≡ y)
said_as f r e said = subst (λ b. IfOk r (λ a. f a ≡ b)) e said

-- the first of two, where the test holds
pub first_chosen : {A : Type 0} (test : Bool) (x y : A) → test ≡ true → x ≡ (if test then x else y)
first_chosen true x y _ = refl
first_chosen false x y holds = cc

-- the second of two, where it doesn't
pub second_chosen : {A : Type 0} (test : Bool) (x y : A) → test ≡ false → y ≡ (if test then x else y)
second_chosen true x y fails = cc
second_chosen false x y _ = refl
