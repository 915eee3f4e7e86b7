-- The views of a table's hands, as lists.
use Rattle.std.proofs.Common.{◌≡◌, ◌⊎◌, inl, inr, ℕ, zero, suc, ◌<◌, List, [], ◌∷◌, ◌++◌, length, refl, sym, ap, arith}
use mathlib.Core.Option.{some, some-injective, some-ne-none}
use lib.ListN.{get_elem?}

module _ {A : Type 0} where
  -- a list of one has its item at 0
  pub single : (v w : A) (h : ℕ) → get_elem? (v ∷ []) h ≡ some w → (h ≡ 0) × (v ≡ w)
  single v w zero e = (refl, some-injective v w e)
  single v w (suc h) e = absurd (some-ne-none w (sym e))

  -- a list that grew by one at its end
  pub at_end : (l : List A) (a b : A) (j : ℕ) → get_elem? (l ++ a ∷ []) j ≡ some b →
      (get_elem? l j ≡ some b) ⊎ ((j ≡ length l) × (a ≡ b))
  at_end [] a b zero e = inr (refl, some-injective a b e)
  at_end [] a b (suc j) e = absurd (some-ne-none b (sym e))
  at_end (x ∷ xs) a b zero e = inl e
  at_end (x ∷ xs) a b (suc j) e =
      elim (at_end xs a b j e) [ inl l ↦ inl l | inr r ↦ inr (ap suc r.0, r.1) ]

-- an item stands within its list
pub at_within : {A : Type 0} (l : List A) (i : ℕ) (a : A) → get_elem? l i ≡ some a → i < length l
at_within [] i a e = absurd (some-ne-none a (sym e))
at_within (x ∷ xs) zero a e = omega arith
at_within (x ∷ xs) (suc i) a e = let l = at_within xs i a e in omega (arith, l)
