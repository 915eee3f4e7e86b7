-- Lists of decks, read by their places.
use Rattle.std.proofs.Common.{◌≡◌, ◌≢◌, ℕ, zero, suc, ◌+◌, ◌<◌, ◌⊎◌, List, [], ◌∷◌, ◌++◌, length, map, get_or, set, sum_by, inl, inr, ⊎_elim, arith, refl, sym, ap, ◌∙◌, subst}
use Rattle.std.specs.Prelude.{slice_get, Some, None}
use Rattle.std.proofs.lemmas.List.Sums.{sum_by-cons}

pub got : {X : Type 0} (a b : X) → Some a ≡ Some b → a ≡ b
got a b e = cc

pub no-more : {X : Type 0} (b : X) → None ≡ Some b → ⊥
no-more b e = cc

other-place : (j : ℕ) → suc j ≢ zero
other-place j e = omega (arith, e)

first-place : (j : ℕ) → zero ≢ suc j
first-place j e = omega (arith, e)

pub before-place : (j k : ℕ) → suc j ≡ suc k → j ≡ k
before-place j k e = omega (arith, e)

module _ {X : Type 0} where
  -- what an index reads is there
  pub there : (l : List X) (i : ℕ) (x : X) → i < length l → x ≡ get_or l i x → slice_get l i ≡ Some x
  there [] i x short e = absurd (let no : ⊥ = omega (arith, short) in no)
  there (y ∷ l) zero x short e = ap (λ z. Some z) (sym e)
  there (y ∷ l) (suc i) x short e = there l i x (omega (arith, short)) e

  pub within : (l : List X) (i : ℕ) (x : X) → slice_get l i ≡ Some x → i < length l
  within [] i x e = absurd (no-more x e)
  within (y ∷ l) zero x e = omega arith
  within (y ∷ l) (suc i) x e = let h = within l i x e in omega (arith, h)

  pub at-changed : (l : List X) (i j : ℕ) (new x : X) → slice_get (set l i new) j ≡ Some x →
      ((j ≡ i) × (new ≡ x)) ⊎ ((j ≢ i) × (slice_get l j ≡ Some x))
  at-changed [] i j new x e = absurd (no-more x e)
  at-changed (y ∷ l) zero zero new x e = inl (refl, got new x e)
  at-changed (y ∷ l) zero (suc j) new x e = inr (other-place j, e)
  at-changed (y ∷ l) (suc i) zero new x e = inr (first-place i, e)
  at-changed (y ∷ l) (suc i) (suc j) new x e =
      ⊎_elim (λ t. inl (ap suc t.0, t.1)) (λ t. inr ((λ same. t.0 (before-place j i same)), t.1)) (at-changed l i j new x e)

  pub at-last : (l : List X) (p q : X) (k : ℕ) → slice_get (l ++ p ∷ []) k ≡ Some q →
      ((k ≡ length l) × (p ≡ q)) ⊎ (slice_get l k ≡ Some q)
  at-last [] p q zero e = inl (refl, got p q e)
  at-last [] p q (suc k) e = absurd (no-more q e)
  at-last (x ∷ xs) p q zero e = inr e
  at-last (x ∷ xs) p q (suc k) e = ⊎_elim (λ t. inl (ap suc t.0, t.1)) (λ t. inr t) (at-last xs p q k e)

  pub in-first : (l more : List X) (k : ℕ) (x : X) → slice_get l k ≡ Some x → slice_get (l ++ more) k ≡ Some x
  in-first [] more k x e = absurd (no-more x e)
  in-first (y ∷ l) more zero x e = e
  in-first (y ∷ l) more (suc k) x e = in-first l more k x e

  pub in-last : (l : List X) (x : X) → slice_get (l ++ x ∷ []) (length l) ≡ Some x
  in-last [] x = refl
  in-last (y ∷ l) x = in-last l x

  -- a fact of each, by its place
  abbrev pub Each : (ℕ → X → Type 0) → List X → Type 0
  Each F l = (k : ℕ) (x : X) → slice_get l k ≡ Some x → F k x

  pub each-set : (F G : ℕ → X → Type 0) (l : List X) (i : ℕ) (new : X) → G i new →
      ((k : ℕ) (x : X) → k ≢ i → slice_get l k ≡ Some x → G k x) → Each G (set l i new)
  each-set F G l i new mine others k x e =
      ⊎_elim (λ (t : (k ≡ i) × (new ≡ x)). subst (λ (y : ℕ × X). G y.0 y.1) (λ j. (sym t.0 j, t.1 j)) mine)
      (λ (t : (k ≢ i) × (slice_get l k ≡ Some x)). others k x t.0 t.1) (at-changed l i k new x e)

  pub each-more : (F : ℕ → X → Type 0) (l : List X) (new : X) → F (length l) new → Each F l → Each F (l ++ new ∷ [])
  each-more F l new mine others k x e =
      ⊎_elim (λ (t : (k ≡ length l) × (new ≡ x)). subst (λ (y : ℕ × X). F y.0 y.1) (λ j. (sym t.0 j, t.1 j)) mine)
      (λ (t : slice_get l k ≡ Some x). others k x t) (at-last l new x k e)

  -- sums
  pub sum-set : (f : X → ℕ) (l : List X) (i : ℕ) (old new : X) → slice_get l i ≡ Some old → sum_by f (set l i new) + f old ≡ sum_by f l + f new
  sum-set f [] i old new e = absurd (no-more old e)
  sum-set f (y ∷ l) zero old new e =
      let is : f y ≡ f old = ap f (got y old e) in omega (arith, is, sum_by-cons f y l, sum_by-cons f new l)
  sum-set f (y ∷ l) (suc i) old new e = omega (arith, sum-set f l i old new e, sum_by-cons f y l, sum_by-cons f y (set l i new))

  pub each-none : (f : X → ℕ) (l : List X) (k : ℕ) (x : X) → sum_by f l ≡ 0 → slice_get l k ≡ Some x → f x ≡ 0
  each-none f [] k x none e = absurd (no-more x e)
  each-none f (y ∷ l) zero x none e =
      let is : f y ≡ f x = ap f (got y x e) in omega (arith, is, none, sum_by-cons f y l)
  each-none f (y ∷ l) (suc k) x none e = each-none f l k x (omega (arith, none, sum_by-cons f y l)) e

  pub none-at-all : (f : X → ℕ) (l : List X) → ((k : ℕ) (x : X) → slice_get l k ≡ Some x → f x ≡ 0) → sum_by f l ≡ 0
  none-at-all f [] none = refl
  none-at-all f (y ∷ l) none =
      omega (arith, none 0 y refl, none-at-all f l (λ k x e. none (suc k) x e), sum_by-cons f y l)

module _ {X Y : Type 0} (f : X → Y) where
  -- a change that a function doesn't see
  pub map-same : (l : List X) (i : ℕ) (old new : X) → slice_get l i ≡ Some old → f new ≡ f old → map f (set l i new) ≡ map f l
  map-same [] i old new e same = refl
  map-same (y ∷ l) zero old new e same = ap (λ z. z ∷ map f l) (same ∙ sym (ap f (got y old e)))
  map-same (y ∷ l) (suc i) old new e same = ap (λ z. f y ∷ z) (map-same l i old new e same)

  pub map-got : (l : List X) (i : ℕ) (x : X) → slice_get l i ≡ Some x → slice_get (map f l) i ≡ Some (f x)
  map-got [] i x e = absurd (no-more x e)
  map-got (y ∷ l) zero x e = ap (λ z. Some (f z)) (got y x e)
  map-got (y ∷ l) (suc i) x e = map-got l i x e

  pub map-from : (l : List X) (i : ℕ) (y : Y) → slice_get (map f l) i ≡ Some y → (x : X) × (slice_get l i ≡ Some x) × (f x ≡ y)
  map-from [] i y e = absurd (no-more y e)
  map-from (x ∷ l) zero y e = (x, refl, got (f x) y e)
  map-from (x ∷ l) (suc i) y e = map-from l i y e
