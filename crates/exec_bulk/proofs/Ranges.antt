-- Numbers that follow each other.
use Rattle.std.specs.Prelude.{Contains, slice_index}
use Rattle.std.specs.List.{range_with_len, list_any}
use Rattle.std.proofs.Common.{◌≡◌, ℕ, zero, suc, ◌+◌, ◌<◌, ◌≤◌, true, false, ◌||◌, ◌==◌, List, [], ◌∷◌, ◌++◌, take, refl, sym, ap, ◌∙◌, subst, arith}
use Rattle.std.proofs.lemmas.Bool.{eq-eqb, eqb-true, ne_eqb, or_right}
use Rattle.std.proofs.lemmas.List.FromFn.{length-range_with_len, get_or-range_with_len}
use Rattle.std.proofs.lemmas.Map.Views.{Contains-from_any}
use Rattle.plan_shape.proofs.ListLemmas.{range_member}

pub range-at : (a n i : ℕ) → i < n → slice_index (range_with_len a n) i ≡ a + i
range-at a zero i within = absurd (omega (arith, within))
range-at a (suc n) zero within = omega arith
range-at a (suc n) (suc i) within = range-at (a + 1) n i (omega (arith, within)) ∙ omega arith

-- the members of a range are such numbers
pub range-place : (a n k : ℕ) → Contains (range_with_len a n) k → (i : ℕ) × (i < n) × (k ≡ a + i)
range-place a n k among =
    let size = length-range_with_len a n in
    let within : among.0 < n = let below = among.1 in omega (arith, below, size) in
    (among.0, within, sym among.2 ∙ get_or-range_with_len a n among.0 k within)

pub place-range : (a n i : ℕ) → i < n → Contains (range_with_len a n) (a + i)
place-range a n i within = Contains-from_any eqb-true (a + i) (range_with_len a n) (range_member a n (a + i) (omega arith) (omega (arith, within)))

pub range-named : (a n i : ℕ) → i < n → list_any (λ m. m == a + i) (range_with_len a n) ≡ true
range-named a zero i within = absurd (omega (arith, within))
range-named a (suc n) zero within =
    ap (λ b. b || list_any (λ m. m == a + 0) (range_with_len (a + 1) n)) (eq-eqb a (a + 0) (omega arith))
range-named a (suc n) (suc i) within =
    let e : a + 1 + i ≡ a + suc i = omega arith in
    or_right (a == a + suc i) (list_any (λ m. m == a + suc i) (range_with_len (a + 1) n))
    (subst (λ k. list_any (λ m. m == k) (range_with_len (a + 1) n) ≡ true) e (range-named (a + 1) n i (omega (arith, within))))

-- a number that isn't among them
pub range-else : (a n k : ℕ) → a + n ≤ k → list_any (λ m. m == k) (range_with_len a n) ≡ false
range-else a zero k past = refl
range-else a (suc n) k past =
    ap (λ b. b || list_any (λ m. m == k) (range_with_len (a + 1) n)) (ne_eqb a k (λ e. absurd (omega (arith, past, e))))
    ∙ range-else (a + 1) n k (omega (arith, past))

-- one more at the end
pub range-more : (a n : ℕ) → range_with_len a (suc n) ≡ range_with_len a n ++ (a + n) ∷ []
range-more a zero = let e : a ≡ a + 0 = omega arith in ap (λ k. k ∷ []) e
range-more a (suc n) =
    let e : a + 1 + n ≡ a + suc n = omega arith in
    ap (λ (l : List ℕ). a ∷ l) (range-more (a + 1) n ∙ ap (λ k. range_with_len (a + 1) n ++ k ∷ []) e)

-- the first so many of them
pub take-range : (k n a : ℕ) → k ≤ n → take k (range_with_len a n) ≡ range_with_len a k
take-range zero n a below = refl
take-range (suc k) zero a below = absurd (omega (arith, below))
take-range (suc k) (suc n) a below = ap (λ (l : List ℕ). a ∷ l) (take-range k n (a + 1) (omega (arith, below)))
