-- Lists of what each pass knows, read by the pass's number.
use Rattle.std.proofs.Common.{◌≡◌, ◌≢◌, ℕ, zero, suc, ◌+◌, ◌<◌, ◌≤◌, ◌⊎◌, List, [], ◌∷◌, ◌++◌, length, set, inl, inr, ⊎_elim, arith, refl, sym, ap, subst, sum_by}
use Rattle.std.proofs.lemmas.List.Sums.{sum_by-cons, sum_by-append}
use mathlib.Core.Option.{some, some-injective, some-ne-none}
use lib.ListN.{get_elem?}
use Rattle.crossbeam_queue.proofs.Lists.{at_set}

module _ {V : Type 0} where
  -- a fact of each pass
  abbrev pub Each : (ℕ → V → Type 0) → List V → Type 0
  Each F views = (pass : ℕ) (v : V) → get_elem? views pass ≡ some v → F pass v

  -- after a change of one pass
  pub each-set : (F : ℕ → V → Type 0) (views : List V) (pass : ℕ) (w : V) → F pass w →
      ((j : ℕ) (u : V) → j ≢ pass → get_elem? views j ≡ some u → F j u) → Each F (set views pass w)
  each-set F views pass w mine others j u e =
      ⊎_elim (λ (x : (j ≡ pass) × (w ≡ u)). subst (λ (y : ℕ × V). F y.0 y.1) (λ i. (sym x.0 i, x.1 i)) mine)
      (λ (x : (j ≢ pass) × (get_elem? views j ≡ some u)). others j u x.0 x.1) (at_set views pass j w u e)

  at-end : (l : List V) (a b : V) (j : ℕ) → get_elem? (l ++ a ∷ []) j ≡ some b → ((j ≡ length l) × (a ≡ b)) ⊎ (get_elem? l j ≡ some b)
  at-end [] a b zero e = inl (refl, some-injective a b e)
  at-end [] a b (suc j) e = absurd (some-ne-none b (sym e))
  at-end (x ∷ xs) a b zero e = inr e
  at-end (x ∷ xs) a b (suc j) e = ⊎_elim (λ t. inl (ap suc t.0, t.1)) (λ t. inr t) (at-end xs a b j e)

  -- with a new pass
  pub each-more : (F : ℕ → V → Type 0) (views : List V) (w : V) → F (length views) w → Each F views → Each F (views ++ w ∷ [])
  each-more F views w mine others j u e =
      ⊎_elim (λ (x : (j ≡ length views) × (w ≡ u)). subst (λ (y : ℕ × V). F y.0 y.1) (λ i. (sym x.0 i, x.1 i)) mine)
      (λ (x : get_elem? views j ≡ some u). others j u x) (at-end views w u j e)

  -- a pass that is there has a place
  pub below : (l : List V) (j : ℕ) (a : V) → get_elem? l j ≡ some a → j < length l
  below [] j a e = absurd (some-ne-none a (sym e))
  below (x ∷ xs) zero a e = omega arith
  below (x ∷ xs) (suc j) a e = let h = below xs j a e in omega arith

  -- and each place a pass
  pub there-is : (l : List V) (j : ℕ) → j < length l → (a : V) × (get_elem? l j ≡ some a)
  there-is [] j h = absurd (omega arith)
  there-is (x ∷ xs) zero h = (x, refl)
  there-is (x ∷ xs) (suc j) h = there-is xs j (omega arith)

  -- sums over all passes
  pub sum-set : (f : V → ℕ) (l : List V) (j : ℕ) (a b : V) → get_elem? l j ≡ some a → sum_by f (set l j b) + f a ≡ sum_by f l + f b
  sum-set f [] j a b e = absurd (some-ne-none a (sym e))
  sum-set f (x ∷ xs) zero a b e =
      let is : f x ≡ f a = ap f (some-injective x a e) in omega (arith, is, sum_by-cons f x xs, sum_by-cons f b xs)
  sum-set f (x ∷ xs) (suc j) a b e = omega (arith, sum-set f xs j a b e, sum_by-cons f x xs, sum_by-cons f x (set xs j b))

  pub sum-more : (f : V → ℕ) (l : List V) (a : V) → sum_by f (l ++ a ∷ []) ≡ sum_by f l + f a
  sum-more f l a = let e = sum_by-append f l (a ∷ []) in omega (arith, e, sum_by-cons f a [])

  pub at-most : (f : V → ℕ) (l : List V) (j : ℕ) (a : V) → get_elem? l j ≡ some a → f a ≤ sum_by f l
  at-most f [] j a e = absurd (some-ne-none a (sym e))
  at-most f (x ∷ xs) zero a e = let is : f x ≡ f a = ap f (some-injective x a e) in omega (arith, is, sum_by-cons f x xs)
  at-most f (x ∷ xs) (suc j) a e = omega (arith, at-most f xs j a e, sum_by-cons f x xs)

  -- two passes are no more than all
  pub two-at-most : (f : V → ℕ) (l : List V) (i j : ℕ) (a b : V) → i ≢ j → get_elem? l i ≡ some a → get_elem? l j ≡ some b → f a + f b ≤ sum_by f l
  two-at-most f [] i j a b apart e h = absurd (some-ne-none a (sym e))
  two-at-most f (x ∷ xs) zero zero a b apart e h = absurd (apart refl)
  two-at-most f (x ∷ xs) zero (suc j) a b apart e h =
      let is : f x ≡ f a = ap f (some-injective x a e) in omega (arith, is, at-most f xs j b h, sum_by-cons f x xs)
  two-at-most f (x ∷ xs) (suc i) zero a b apart e h =
      let is : f x ≡ f b = ap f (some-injective x b h) in omega (arith, is, at-most f xs i a e, sum_by-cons f x xs)
  two-at-most f (x ∷ xs) (suc i) (suc j) a b apart e h =
      omega (arith, two-at-most f xs i j a b (λ same. apart (ap suc same)) e h, sum_by-cons f x xs)

  sum-none : (f : V → ℕ) (l : List V) → ((j : ℕ) (u : V) → get_elem? l j ≡ some u → f u ≡ 0) → sum_by f l ≡ 0
  sum-none f [] none = refl
  sum-none f (x ∷ xs) none =
      omega (arith, none 0 x refl, sum-none f xs (λ j u e. none (suc j) u e), sum_by-cons f x xs)

  -- where all others are 0, the sum is of one
  pub sum-only : (f : V → ℕ) (l : List V) (j : ℕ) (a : V) → get_elem? l j ≡ some a →
      ((i : ℕ) (u : V) → i ≢ j → get_elem? l i ≡ some u → f u ≡ 0) → sum_by f l ≡ f a
  sum-only f [] j a e none = absurd (some-ne-none a (sym e))
  sum-only f (x ∷ xs) zero a e none =
      let is : f x ≡ f a = ap f (some-injective x a e) in
      let rest = sum-none f xs (λ i u h. none (suc i) u (λ same. let no : ⊥ = omega (arith, same) in no) h) in
      omega (arith, is, rest, sum_by-cons f x xs)
  sum-only f (x ∷ xs) (suc j) a e none =
      let here = none 0 x (λ same. let no : ⊥ = omega (arith, same) in no) refl in
      let rest = sum-only f xs j a e (λ i u apart h. none (suc i) u (λ same. apart (let is : i ≡ j = omega (arith, same) in is)) h) in
      omega (arith, here, rest, sum_by-cons f x xs)
