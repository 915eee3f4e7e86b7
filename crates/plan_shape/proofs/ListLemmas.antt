-- Lists of nodes and of numbers.
use Rattle.std.proofs.Common.{◌≡◌, ℕ, zero, suc, ◌+◌, ◌<◌, ◌≤◌, Bool, true, false, not, cond, List, [], ◌∷◌, ◌++◌, map, Some, None, refl, sym, ◌∙◌, arith}
use Rattle.std.specs.Prelude.{nat_eq, ◌==◌, All, find, count_by}
use Rattle.std.specs.List.{list_any, range_with_len}
use Rattle.std.proofs.lemmas.List.Folds.{list_any-append}
use Rattle.std.proofs.lemmas.Bool.{and_from, and_parts, not-true, or_from, or_parts, or_left, or_right, not_from_false, cond-true, cond-false, eq-eqb, eqb-true, ne_eqb, false≢true}
use Rattle.std.proofs.lemmas.Cmp.{nat_eq_equiv}
use Rattle.std.proofs.lemmas.List.Sums.{sum_by-cons}
use Rattle.std.proofs.lemmas.List.Elements.{All-nil, All-cons, All-head, All-tail, All-contains}
use Rattle.std.proofs.lemmas.Map.Views.{All-from_any, Contains-from_any}
use Rattle.common_lemmas.specs.Lists.{are_different}
use Rattle.common_lemmas.proofs.Bool.{either}

-- a search that finds nothing
pub find-None : {X : Type 0} (p : X → Bool) (xs : List X) → find p xs ≡ None → All (λ x. p x ≡ false) xs
find-None p [] e = All-nil (λ x. p x ≡ false)
find-None p (x ∷ xs) e =
    either (p x)
    (λ t. let some : find p (x ∷ xs) ≡ Some x = cond-true (p x) (Some x) (find p xs) t in absurd (cc))
    (λ f. All-cons (λ y. p y ≡ false) x xs f (find-None p xs (sym (cond-false (p x) (Some x) (find p xs) f) ∙ e)))

pub map-same : {X Y : Type 0} (f g : X → Y) (xs : List X) → All (λ x. f x ≡ g x) xs → map f xs ≡ map g xs
map-same f g [] h = refl
map-same f g (x ∷ xs) h =
    let here : f x ≡ g x = All-head (λ y. f y ≡ g y) x xs h in
    let there : map f xs ≡ map g xs = map-same f g xs (All-tail (λ y. f y ≡ g y) x xs h) in
    cc

-- what holds of each member of a list
pub member_all : (P : ℕ → Type 0) (xs : List ℕ) (k : ℕ) → All P xs → list_any (nat_eq k) xs ≡ true → P k
member_all P xs k h e = All-contains P xs k h (Contains-from_any eqb-true k xs e)

pub all_members : (P : ℕ → Type 0) (xs : List ℕ) → ((k : ℕ) → list_any (nat_eq k) xs ≡ true → P k) → All P xs
all_members P xs h = All-from_any nat_eq_equiv P xs h

-- the members of a range
pub range_member : (a n k : ℕ) → a ≤ k → k < a + n → list_any (nat_eq k) (range_with_len a n) ≡ true
range_member a zero k l h = absurd (omega arith)
range_member a (suc n) k l h =
    either (nat_eq k a)
    (λ t. or_left (nat_eq k a) (list_any (nat_eq k) (range_with_len (a + 1) n)) t)
    (λ f. or_right (nat_eq k a) (list_any (nat_eq k) (range_with_len (a + 1) n))
    (range_member (a + 1) n k (let ne : k ≡ a → ⊥ = (λ e. false≢true (sym f ∙ eq-eqb k a e)) in omega arith) (omega arith)))

pub range_below : (a n k : ℕ) → k < a → list_any (nat_eq k) (range_with_len a n) ≡ false
range_below a zero k l = refl
range_below a (suc n) k l =
    or_from (nat_eq k a) (list_any (nat_eq k) (range_with_len (a + 1) n))
    (ne_eqb k a (λ e. absurd (omega arith))) (range_below (a + 1) n k (omega arith))

pub range_above : (a n k : ℕ) → a + n ≤ k → list_any (nat_eq k) (range_with_len a n) ≡ false
range_above a zero k l = refl
range_above a (suc n) k l =
    or_from (nat_eq k a) (list_any (nat_eq k) (range_with_len (a + 1) n))
    (ne_eqb k a (λ e. absurd (omega arith))) (range_above (a + 1) n k (omega arith))

-- the test of `are_different`, which names its numbers the other way round
pub other_way : (k : ℕ) (xs : List ℕ) → list_any (nat_eq k) xs ≡ false → list_any (λ m. m == k) xs ≡ false
other_way k [] h = refl
other_way k (x ∷ xs) h =
    let parts = or_parts (nat_eq k x) (list_any (nat_eq k) xs) h in
    or_from (x == k) (list_any (λ m. m == k) xs)
    (ne_eqb x k (λ e. false≢true (sym parts.0 ∙ eq-eqb k x (sym e)))) (other_way k xs parts.1)

-- what counts one
counts_one : (b : Bool) → b ≡ true → cond {A = ℕ} b 1 0 ≡ 1
counts_one b t = cond-true b 1 0 t

count_by-cons : (k x : ℕ) (xs : List ℕ) →
    count_by (nat_eq k) (x ∷ xs) ≡ cond {A = ℕ} (nat_eq k x) 1 0 + count_by (nat_eq k) xs
count_by-cons k x xs = sum_by-cons (λ y. cond (nat_eq k y) 1 0) x xs

count-zero : (k : ℕ) (xs : List ℕ) → count_by (nat_eq k) xs ≡ 0 → list_any (nat_eq k) xs ≡ false
count-zero k [] h = refl
count-zero k (x ∷ xs) h =
    let sum = count_by-cons k x xs in
    either (nat_eq k x)
    (λ t. absurd (omega (arith, h, sum, counts_one (nat_eq k x) t)))
    (λ f. or_from (nat_eq k x) (list_any (nat_eq k) xs) f (count-zero k xs (omega (arith, h, sum))))

-- no number stands twice where none is counted twice
pub different_from_counts : (xs : List ℕ) →
    ((k : ℕ) → list_any (nat_eq k) xs ≡ true → count_by (nat_eq k) xs ≤ 1) → are_different xs ≡ true
different_from_counts [] h = refl
different_from_counts (x ∷ xs) h =
    let itself : nat_eq x x ≡ true = eq-eqb x x refl in
    let one = counts_one (nat_eq x x) itself in
    let most = h x (or_left (nat_eq x x) (list_any (nat_eq x) xs) itself) in
    let sum = count_by-cons x x xs in
    let none : list_any (λ m. m == x) xs ≡ false = other_way x xs (count-zero x xs (omega (arith, most, sum, one))) in
    let rest : are_different xs ≡ true =
    different_from_counts xs (λ k e.
    let all = h k (or_right (nat_eq k x) (list_any (nat_eq k) xs) e) in
    omega (arith, all, count_by-cons k x xs)) in
    and_from (not (list_any (λ m. m == x) xs)) (are_different xs) (not_from_false (list_any (λ m. m == x) xs) none) rest

pub different_range : (a n : ℕ) → are_different (range_with_len a n) ≡ true
different_range a zero = refl
different_range a (suc n) =
    let none : list_any (λ m. m == a) (range_with_len (a + 1) n) ≡ false =
    other_way a (range_with_len (a + 1) n) (range_below (a + 1) n a (omega arith)) in
    and_from (not (list_any (λ m. m == a) (range_with_len (a + 1) n))) (are_different (range_with_len (a + 1) n))
    (not_from_false (list_any (λ m. m == a) (range_with_len (a + 1) n)) none) (different_range (a + 1) n)

-- lists without a number in common
pub different-append : (xs ys : List ℕ) → are_different xs ≡ true → are_different ys ≡ true →
    ((k : ℕ) → list_any (nat_eq k) xs ≡ true → list_any (nat_eq k) ys ≡ false) → are_different (xs ++ ys) ≡ true
different-append [] ys p q h = q
different-append (x ∷ xs) ys p q h =
    let parts = and_parts (not (list_any (λ m. m == x) xs)) (are_different xs) p in
    let first : list_any (λ m. m == x) ys ≡ false =
    other_way x ys (h x (or_left (nat_eq x x) (list_any (nat_eq x) xs) (eq-eqb x x refl))) in
    let none : list_any (λ m. m == x) (xs ++ ys) ≡ false =
    list_any-append (λ m. m == x) xs ys
    ∙ or_from (list_any (λ m. m == x) xs) (list_any (λ m. m == x) ys)
    (not-true (list_any (λ m. m == x) xs) parts.0) first in
    and_from (not (list_any (λ m. m == x) (xs ++ ys))) (are_different (xs ++ ys))
    (not_from_false (list_any (λ m. m == x) (xs ++ ys)) none)
    (different-append xs ys parts.1 q (λ k e. h k (or_right (nat_eq k x) (list_any (nat_eq k) xs) e)))
