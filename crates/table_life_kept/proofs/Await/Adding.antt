-- The children of an await are added to the set of what the hand owes, one by one.
use Rattle.std.proofs.Common.{◌≡◌, ℕ, zero, suc, ◌+◌, ◌<◌, Bool, true, false, ◌||◌, ◌==◌, List, [], ◌∷◌, length, get_or, drop, refl, sym, ap, ◌∙◌, subst, arith}
use Rattle.std.specs.List.{list_any}
use Rattle.std.proofs.lemmas.Bool.{eq-eqb}
use Rattle.std.proofs.lemmas.List.{drop_more}
use Rattle.life_rules.specs.declared.event.Name.{Name}
use Rattle.life_rules.specs.Views.{same, beside}
use Rattle.life_rules.proofs.Names.{same-true}
use Rattle.name_set.specs.Sets.{Marks, has, IsPlaceOf}
use Rattle.table_steps.specs.Awaits.{is_named}
use Rattle.table_steps.specs.Remembers.{ArePlacesOf, IsAdding}
use Rattle.table_kept.proofs.BeginSeats.{or-left, or-right, or-cases}

-- what stands in the list is named
named-at : (xs : List ℕ) (i : ℕ) → i < length xs → is_named xs (get_or xs i 0) ≡ true
named-at [] i within = absurd (omega (arith, within))
named-at (x ∷ xs) zero within = or-left (x == x) (is_named xs x) (eq-eqb x x refl)
named-at (x ∷ xs) (suc i) within = or-right (x == get_or xs i 0) _ (named-at xs i (omega (arith, within)))

or-turned : (a b c : Bool) → (b || (a || c)) ≡ ((a || b) || c)
or-turned true true c = refl
or-turned true false c = refl
or-turned false true c = refl
or-turned false false c = refl

module _ (x : Name) (children : List ℕ) (old now : Marks) (i : ℕ) (within : i < length children) (adding : IsAdding x children (drop i children) old now) where
  abbrev child : ℕ
  child = get_or children i 0

  -- the next child has a place of the table
  pub adds-place : ArePlacesOf old.layout x.block children → IsPlaceOf now.layout (beside x child)
  adds-place places =
      record {
        block = subst (λ l. x.block < l.blocks) (sym adding.layout) places.within;
        node = subst (λ l. child < l.nodes) (sym adding.layout) (places.each child (named-at children i within));
      }

  -- after it is added the others are left
  pub adds-one : (after : Marks) → after.layout ≡ now.layout →
      ((y : Name) → has after y ≡ (same (beside x child) y || has now y)) → IsAdding x children (drop (i + 1) children) old after
  adds-one after layout has_it =
      record {
        layout = layout ∙ adding.layout;
        of_block = λ y h at.
            or-cases (same (beside x child) y) (has now y) (sym (has_it y) ∙ h)
            (λ here. ap (λ z. z.generation) (sym (same-true (beside x child) y here)))
            (λ before. adding.of_block y before at);
        has_all = λ y.
            let test : ℕ → Bool = λ n. same (beside x n) y in
            ap (λ b. list_any test (drop (i + 1) children) || b) (has_it y)
            ∙ or-turned (test child) (list_any test (drop (i + 1) children)) (has now y)
            ∙ ap (λ l. list_any test l || has now y) (sym (drop_more children i 0 within))
            ∙ adding.has_all y;
      }
