-- Lists of numbers, by their places.
use Rattle.std.proofs.Common.{◌≡◌, ℕ, zero, suc, ◌<◌, Bool, true, false, not, ◌||◌, ◌==◌, List, [], ◌∷◌, length, arith, refl, sym, ap}
use Rattle.std.specs.Prelude.{slice_index}
use Rattle.std.specs.List.{list_any, list_all}
use Rattle.std.proofs.lemmas.Bool.{and_from, and_parts, not-true, both_ways, eq-eqb}
use Rattle.common_lemmas.specs.Lists.{are_different}

or-first : (a b : Bool) → a ≡ true → (a || b) ≡ true
or-first a b t = ap (λ c. c || b) t

or-second : (a b : Bool) → b ≡ true → (a || b) ≡ true
or-second true b t = refl
or-second false b t = t

-- one that passes a test is found by it
pub any-at : (test : ℕ → Bool) (ns : List ℕ) (i : ℕ) → i < length ns → test (slice_index ns i) ≡ true → list_any test ns ≡ true
any-at test [] i within passes = absurd (omega (arith, within))
any-at test (n ∷ ns) zero within passes = or-first (test n) (list_any test ns) passes
any-at test (n ∷ ns) (suc i) within passes =
    or-second (test n) (list_any test ns) (any-at test ns i (omega (arith, within)) passes)

-- where each passes a test all do
pub all-at : (test : ℕ → Bool) (ns : List ℕ) → ((i : ℕ) → i < length ns → test (slice_index ns i) ≡ true) → list_all test ns ≡ true
all-at test [] all = refl
all-at test (n ∷ ns) all =
    and_from (test n) (list_all test ns) (all 0 (omega arith)) (all-at test ns (λ i within. all (suc i) (omega (arith, within))))

-- no two places have the same of different ones
pub places-differ : (ns : List ℕ) → are_different ns ≡ true → (i j : ℕ) → i < j → j < length ns → slice_index ns i ≡ slice_index ns j → ⊥
places-differ [] different i j before within same = omega (arith, within)
places-differ (n ∷ ns) different i zero before within same = omega (arith, before)
places-differ (n ∷ ns) different zero (suc j) before within same =
    let parts = and_parts (not (list_any (λ m. m == n) ns)) (are_different ns) different in
    both_ways (list_any (λ m. m == n) ns) (not-true (list_any (λ m. m == n) ns) parts.0)
    (any-at (λ m. m == n) ns j (omega (arith, within)) (eq-eqb (slice_index ns j) n (sym same)))
places-differ (n ∷ ns) different (suc i) (suc j) before within same =
    places-differ ns (and_parts (not (list_any (λ m. m == n) ns)) (are_different ns) different).1 i j (omega (arith, before))
    (omega (arith, within)) same
