-- Lists: what stands where in two that are joined, in one of a single value, and in one whose elements all pass a test.
use Rattle.std.proofs.Common.{◌≡◌, ℕ, zero, suc, ◌+◌, ◌<◌, Bool, true, List, [], ◌∷◌, ◌++◌, length, Some, get_or, replicate, refl, ap, ◌∙◌, inl, inr, zero-add, arith}
use Rattle.std.specs.List.{list_all}
use Rattle.std.specs.Prelude.{slice_get}
use Rattle.std.proofs.lemmas.Bool.{both_ways, cases_lt, true_from_ne_false}
use Rattle.std.proofs.lemmas.List.{get_or-replicate, get_or_past, length-replicate}
use Rattle.std.proofs.lemmas.List.Folds.{list_all_at}

pub slice_get-append_left : {X : Type 0} (xs ys : List X) (k : ℕ) → k < length xs →
    slice_get (xs ++ ys) k ≡ slice_get xs k
slice_get-append_left [] ys k l = absurd (omega arith)
slice_get-append_left (x ∷ xs) ys zero l = refl
slice_get-append_left (x ∷ xs) ys (suc k) l = slice_get-append_left xs ys k (omega arith)

pub slice_get-append_right : {X : Type 0} (xs ys : List X) (k : ℕ) →
    slice_get (xs ++ ys) (length xs + k) ≡ slice_get ys k
slice_get-append_right [] ys k = ap (slice_get ys) (zero-add k)
slice_get-append_right (x ∷ xs) ys k =
    let e : suc (length xs) + k ≡ suc (length xs + k) = omega arith in
    ap (slice_get (x ∷ xs ++ ys)) e ∙ slice_get-append_right xs ys k

pub slice_get-append_middle : {X : Type 0} (xs : List X) (x : X) (ys : List X) →
    slice_get (xs ++ x ∷ ys) (length xs) ≡ Some x
slice_get-append_middle [] x ys = refl
slice_get-append_middle (z ∷ xs) x ys = slice_get-append_middle xs x ys

pub get_or-replicate_same : {X : Type 0} (n i : ℕ) (x : X) → get_or (replicate n x) i x ≡ x
get_or-replicate_same n i x = elim (cases_lt i n) [
  | inl within ↦ get_or-replicate n i x x within
  | inr past ↦ get_or_past (replicate n x) i x (omega (arith, length-replicate n x))
]

pub list_all-read : {X : Type 0} (p : X → Bool) (xs : List X) (k : ℕ) (d : X) →
    k < length xs → list_all p xs ≡ true → p (get_or xs k d) ≡ true
list_all-read p xs k d within all =
    true_from_ne_false (p (get_or xs k d)) (λ f. both_ways _ (list_all_at p xs k d within f) all)
