-- What holds of the children of a node.
use Rattle.std.specs.Prelude.{ℤ, pos, negsuc, min, All}
use Rattle.std.proofs.Common.{ℕ, suc, ◌-◌, ◌<◌, List, [], ◌∷◌, length, arith}
use Rattle.plan_rules.specs.Allowed.{body_at}

-- where some number is among these, so is 0: the number of a body where there is none
abbrev pub HasZero : (ℕ → Type 0) → Type 0
HasZero These = (k : ℕ) → These k → These 0

pub below-zero : (n : ℕ) → HasZero (λ k. k < n)
below-zero n k below = omega arith

pub head-of : (These : ℕ → Type 0) (x : ℕ) (xs : List ℕ) → All These (x ∷ xs) → These x
head-of These x xs all = all 0 0 (omega arith)

pub tail-of : (These : ℕ → Type 0) (x : ℕ) (xs : List ℕ) → All These (x ∷ xs) → All These xs
tail-of These x xs all = λ k d within. all (suc k) d (omega arith)

pub second-of : (These : ℕ → Type 0) (x y : ℕ) (xs : List ℕ) → All These (x ∷ y ∷ xs) → These y
second-of These x y xs all = all 1 0 (omega arith)

pub body-of : (These : ℕ → Type 0) → HasZero These → (x : ℕ) (xs : List ℕ) → All These (x ∷ xs) →
    (k : ℤ) → These (body_at xs k)
body-of These zeroth x [] all (pos k) = zeroth x (head-of These x [] all)
body-of These zeroth x [] all (negsuc k) = zeroth x (head-of These x [] all)
body-of These zeroth x (y ∷ ys) all (pos k) =
    all (suc (min k (length (y ∷ ys) - 1))) 0 (omega arith)
body-of These zeroth x (y ∷ ys) all (negsuc k) = all 1 0 (omega arith)
