-- A walk over a list that ends at the first that is so.
use Rattle.std.proofs.Common.{◌≡◌, ℕ, ◌+◌, Bool, true, false, ◌||◌, List, ◌++◌, take, drop, get_or, slice_get, Some, sym, ap, ◌∙◌}
use Rattle.std.specs.List.{list_any}
use Rattle.std.proofs.lemmas.List.{take-append-drop}
use Rattle.std.proofs.lemmas.List.Folds.{list_any_more, list_any-append}
use Rattle.std.proofs.lemmas.Option.{slice_get_within, get_or_from_slice_get}

module _ {X : Type 0} (is : X → Bool) (xs : List X) where
  -- one more, behind some of which none is so
  pub one-more : (i : ℕ) (x : X) → slice_get xs i ≡ Some x → list_any is (take i xs) ≡ false → list_any is (take (i + 1) xs) ≡ is x
  one-more i x at none =
      list_any_more is xs i x (slice_get_within xs i x at)
      ∙ ap (λ b. b || is (get_or xs i x)) none ∙ ap is (get_or_from_slice_get xs i x x at)

  -- where one of the first is so, one of all is
  pub among-all : (k : ℕ) → list_any is (take k xs) ≡ true → true ≡ list_any is xs
  among-all k found =
      sym (ap (list_any is) (sym (take-append-drop k xs)) ∙ list_any-append is (take k xs) (drop k xs)
      ∙ ap (λ b. b || list_any is (drop k xs)) found)
