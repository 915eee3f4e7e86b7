-- The children that a node awaits, as a list without repeats.
use Rattle.std.proofs.Common.{◌≡◌, ℕ, ◌+◌, ◌<◌, Bool, true, false, not, ◌&&◌, ◌||◌, ◌==◌, List, [], ◌∷◌, length, refl, sym, ap, subst, inl, inr, arith}
use Rattle.std.specs.List.{list_any, list_all}
use Rattle.std.proofs.lemmas.Bool.{and_parts, or_cases, not-true, eqb-true, eq-eqb, ne_eqb}
use Rattle.life_rules.specs.declared.event.Name.{Name}
use Rattle.common_lemmas.specs.Sums.{one}
use Rattle.life_rules.specs.Views.{same, beside}
use Rattle.common_lemmas.specs.Sums.{total}
use Rattle.common_lemmas.specs.Lists.{are_different}
use Rattle.life_rules.proofs.Names.{same-true}
use Rattle.common_lemmas.proofs.Totals.{total-zero, total-same, total-plus, total-moved}
use Rattle.common_lemmas.proofs.Bool.{one-or}

-- a name of the list is of a node that passes the test of all
pub any-passes : (x y : Name) (test : ℕ → Bool) (nodes : List ℕ) →
    list_any (λ n. same (beside x n) y) nodes ≡ true → list_all test nodes ≡ true →
    (n : ℕ) × (beside x n ≡ y) × (test n ≡ true)
any-passes x y test [] any all = cc
any-passes x y test (n ∷ ns) any all =
    let parts = and_parts (test n) (list_all test ns) all in
    elim (or_cases (same (beside x n) y) (list_any (λ m. same (beside x m) y) ns) any) [
      | inl here ↦ (n, same-true (beside x n) y here, parts.0)
      | inr later ↦ any-passes x y test ns later parts.1
    ]

-- whether a list of children has a name, by its node
pub any-beside : (x : Name) (n : ℕ) (nodes : List ℕ) →
    list_any (λ m. same (beside x m) (beside x n)) nodes ≡ list_any (λ m. m == n) nodes
any-beside x n [] = refl
any-beside x n (m ∷ ms) =
    let block : (x.block == x.block) ≡ true = eq-eqb x.block x.block refl in
    let generation : (x.generation == x.generation) ≡ true = eq-eqb x.generation x.generation refl in
    λ k. (block k && (generation k && m == n)) || any-beside x n ms k

-- of the numbers below a bound that lies above it, one is m
one-equal : (m size : ℕ) → m < size → total (λ n. one (m == n)) size ≡ 1
one-equal m size below =
    let moved : total (λ n. one (m == n)) size + 0 ≡ total (λ n. 0) size + one (m == m) =
    total-moved (λ n. 0) (λ n. one (m == n)) size m below
    (λ n l ne. ap one (ne_eqb m n (λ e. ne (sym e)))) in
    let none : total (λ n. 0) size ≡ 0 = total-zero (λ n. 0) size (λ n l. refl) in
    let here : one (m == m) ≡ 1 = ap one (eq-eqb m m refl) in
    omega (arith, moved, none, here)

-- a list without repeats has as many numbers as are in it
pub count-different : (nodes : List ℕ) (size : ℕ) (test : ℕ → Bool) → ((n : ℕ) → test n ≡ true → n < size) →
    are_different nodes ≡ true → list_all test nodes ≡ true →
    total (λ n. one (list_any (λ m. m == n) nodes)) size ≡ length nodes
count-different [] size test within different all = total-zero (λ n. 0) size (λ n l. refl)
count-different (m ∷ ms) size test within different all =
    let parts = and_parts (not (list_any (λ k. k == m) ms)) (are_different ms) different in
    let passed = and_parts (test m) (list_all test ms) all in
    let absent : list_any (λ k. k == m) ms ≡ false = not-true (list_any (λ k. k == m) ms) parts.0 in
    let split : total (λ n. one ((m == n) || list_any (λ k. k == n) ms)) size
    ≡ total (λ n. one (m == n) + one (list_any (λ k. k == n) ms)) size =
    total-same _ _ size (λ n l. one-or (m == n) (list_any (λ k. k == n) ms)
    (λ e. subst (λ j. list_any (λ k. k == j) ms ≡ false) (eqb-true m n e) absent)) in
    let sums : total (λ n. one (m == n) + one (list_any (λ k. k == n) ms)) size
    ≡ total (λ n. one (m == n)) size + total (λ n. one (list_any (λ k. k == n) ms)) size =
    total-plus (λ n. one (m == n)) (λ n. one (list_any (λ k. k == n) ms)) size in
    let here : total (λ n. one (m == n)) size ≡ 1 = one-equal m size (within m passed.0) in
    let rest : total (λ n. one (list_any (λ k. k == n) ms)) size ≡ length ms =
    count-different ms size test within parts.1 passed.1 in
    omega (arith, split, sums, here, rest)
