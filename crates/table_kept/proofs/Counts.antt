-- The counts of claims and releases after a view changed, or came to the others.
use Rattle.std.proofs.Common.{◌≡◌, ℕ, zero, suc, ◌+◌, List, [], ◌∷◌, ◌++◌, length, set, refl, sym, ap, ◌∙◌, subst, arith, length-set, length-append}
use mathlib.Core.Option.{some, some-injective, some-ne-none}
use lib.ListN.{get_elem?}
use Rattle.life_rules.specs.States.{State}
use Rattle.table_rules.specs.declared.view.View.{View}
use Rattle.table_rules.specs.Named.{Each}
use Rattle.table_rules.specs.Counts.{open_blocks, over_all, CountsItself, AreCounted}
use Rattle.table_steps.specs.Views.{fresh}

module _ {A : Type 0} (f : A → ℕ) where
  pub over-set : (l : List A) (i : ℕ) (a b : A) → get_elem? l i ≡ some a →
      over_all f (set l i b) + f a ≡ over_all f l + f b
  over-set [] i a b at = absurd (some-ne-none a (sym at))
  over-set (x ∷ xs) zero a b at =
      let same : f x ≡ f a = ap f (some-injective x a at) in omega (arith, same)
  over-set (x ∷ xs) (suc i) a b at = let rest = over-set xs i a b at in omega (arith, rest)

  pub over-more : (l : List A) (a : A) → over_all f (l ++ a ∷ []) ≡ over_all f l + f a
  over-more [] a = omega arith
  over-more (x ∷ xs) a = let rest = over-more xs a in omega (arith, rest)

module _ {A : Type 0} (Q : A → Type 0) where
  pub each-set : (l : List A) (i : ℕ) (b : A) → Q b → Each Q l → Each Q (set l i b)
  each-set [] i b here all = tt
  each-set (x ∷ xs) zero b here all = (here, all.1)
  each-set (x ∷ xs) (suc i) b here all = (all.0, each-set xs i b here all.1)

  pub each-more : (l : List A) (a : A) → Each Q l → Q a → Each Q (l ++ a ∷ [])
  each-more [] a all here = (here, tt)
  each-more (x ∷ xs) a all here = (all.0, each-more xs a all.1 here)

  pub each-get : (l : List A) (i : ℕ) (a : A) → get_elem? l i ≡ some a → Each Q l → Q a
  each-get [] i a at all = absurd (some-ne-none a (sym at))
  each-get (x ∷ xs) zero a at all = subst Q (some-injective x a at) all.0
  each-get (x ∷ xs) (suc i) a at all = each-get xs i a at all.1

module _ {P E : Type 0} where
  -- what a view counts
  abbrev pub tally : View P E → ℕ × (ℕ × ℕ)
  tally v = (v.claimed, (v.released, v.hands))

  -- a step of this hand opened or closed so many blocks as its view counts more
  pub counts-stepped : (s t : State) (vs : List (View P E)) (id : ℕ) (v w : View P E) → get_elem? vs id ≡ some v →
      w.hands ≡ v.hands → CountsItself w →
      open_blocks t + (w.released + v.claimed) ≡ open_blocks s + (v.released + w.claimed) → AreCounted s vs →
      AreCounted t (set vs id w)
  counts-stepped s t vs id v w at hands itself moved old =
      let claimed = over-set (λ (z : View P E). z.claimed) vs id v w at in
      let released = over-set (λ (z : View P E). z.released) vs id v w at in
      let stood = over-set (λ (z : View P E). z.hands) vs id v w at in
      let opened = old.opened in
      let many = old.hands in
      let long = length-set vs id w in
      record {
        opened = omega (arith, moved, claimed, released, opened);
        hands = omega (arith, hands, stood, many, long);
        spent = each-set CountsItself vs id w itself old.spent;
      }

  -- a step that opened and closed none
  pub counts-moved : (s t : State) (vs : List (View P E)) (id : ℕ) (v w : View P E) → get_elem? vs id ≡ some v →
      open_blocks t ≡ open_blocks s → tally w ≡ tally v → AreCounted s vs → AreCounted t (set vs id w)
  counts-moved s t vs id v w at opened same old =
      let claimed : w.claimed ≡ v.claimed = ap (λ z. z.0) same in
      let released : w.released ≡ v.released = ap (λ z. z.1.0) same in
      let hands : w.hands ≡ v.hands = ap (λ z. z.1.1) same in
      counts-stepped s t vs id v w at hands
      (λ none.
      let was = each-get CountsItself vs id v at old.spent (sym hands ∙ none) in
      (claimed ∙ was.0, released ∙ was.1))
      (omega (arith, opened, claimed, released)) old

  -- a new hand counts nothing but itself
  pub counts-more : (s : State) (vs : List (View P E)) (number : ℕ) → AreCounted s vs →
      AreCounted s (vs ++ fresh number ∷ [])
  counts-more s vs number old =
      let new : View P E = fresh number in
      let claimed : over_all (λ (z : View P E). z.claimed) (vs ++ new ∷ []) ≡ over_all (λ (z : View P E). z.claimed) vs + 0 =
      over-more (λ (z : View P E). z.claimed) vs new in
      let released : over_all (λ (z : View P E). z.released) (vs ++ new ∷ []) ≡ over_all (λ (z : View P E). z.released) vs + 0 =
      over-more (λ (z : View P E). z.released) vs new in
      let stood : over_all (λ (z : View P E). z.hands) (vs ++ new ∷ []) ≡ over_all (λ (z : View P E). z.hands) vs + 1 =
      over-more (λ (z : View P E). z.hands) vs new in
      let long : length (vs ++ new ∷ []) ≡ length vs + 1 = length-append vs (new ∷ []) in
      let opened = old.opened in
      let many = old.hands in
      record {
        opened = omega (arith, claimed, released, opened);
        hands = omega (arith, stood, long, many);
        spent = each-more CountsItself vs new old.spent (λ _. (refl, refl));
      }
