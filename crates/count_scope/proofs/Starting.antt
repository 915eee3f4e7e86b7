-- How the join of a scope starts.
use Rattle.std.proofs.Common.{◌≡◌, inl, inr, true, false, not, ◌&&◌, ◌==◌, [], refl, sym, ap, ◌∙◌, subst}
use Rattle.std.specs.Prelude.{Option}
use Rattle.std.proofs.lemmas.Bool.{and_left, and_right, or_cases, not_from_true, not-true}
use Rattle.life_rules.specs.declared.scope.ScopeWord.{ScopeWord}
use Rattle.life_rules.specs.Scopes.{may_seal}
use Rattle.table_words.specs.ScopeNumbers.{scope_read}
use Rattle.atomic_table.specs.declared.shared.Seat.{Seat}
use Rattle.table_rules.specs.declared.view.View.{View}
use Rattle.table_rules.specs.Grown.{HasBitsOf}
use Rattle.table_steps.specs.Seats.{Seated}
use Rattle.table_steps.specs.ScopeSets.{SetsScope, joining}
use Rattle.count_scope.specs.declared.joining.JoinStart.{JoinStart}
use Rattle.count_scope.specs.Tries.{Sealed, is_settled}
use Rattle.count_scope.specs.Seals.{IsFresh, tried, Seals}
use Rattle.count_scope.specs.Joins.{start_of, start_after, StartsWhere, Starts}
use Rattle.count_scope.proofs.Rising.{same-bits, unsettled-seals}

-- a word that asks no seal can't be sealed
settled-stays : (w : ScopeWord) → is_settled w ≡ true → may_seal w ≡ false
settled-stays w h =
    elim (or_cases w.joined (not (w.count == 0)) h) [
      | inl joined ↦ and_left (w.joining && not w.joined) (w.count == 0) (and_right w.joining (not w.joined) (not_from_true w.joined joined))
      | inr counted ↦ and_right (w.joining && not w.joined) (w.count == 0) (not-true (w.count == 0) counted)
    ]

module _ {P E : Type 0} (read : ScopeWord) (old middle : Seat (Option P) (View P E)) (sets : SetsScope joining read old middle) where
  abbrev left : ScopeWord
  left = joining read

  left-joins : scope_read sets.left ≡ joining (scope_read sets.read)
  left-joins = sets.left_is ∙ ap joining sets.answer_is

  -- the hand's newest step left that word
  pub join-fresh : IsFresh left middle.me.0.steps
  join-fresh =
      record {
        read = sets.read;
        left = sets.left;
        older = old.me.0.steps;
        steps_are = ap (λ (m : Seated P E). m.0.steps) sets.me_is;
        bits = subst (HasBitsOf left) (sym sets.left_is) (same-bits left);
      }

  pub join-seals : is_settled left ≡ false → may_seal left ≡ true
  join-seals open_yet = unsettled-seals left refl open_yet

  -- no seal is asked
  pub starts-settled : (answer : JoinStart) → is_settled left ≡ true → answer ≡ start_of left → Starts answer old.me middle.me
  starts-settled answer settled is =
      record {
        read = sets.read;
        left = sets.left;
        left_is = left-joins;
        words = [];
        last = 0;
        me_is = sets.me_is;
        starts = subst (λ w. StartsWhere (may_seal w) w [] 0 answer) (sym sets.left_is)
            (subst (λ b. StartsWhere b left [] 0 answer) (sym (settled-stays left settled)) (refl, is));
      }

  -- the scope is sealed by these tries
  pub starts-sealed : (answer : JoinStart) (sealed : Sealed) (new : Seated P E) → is_settled left ≡ false →
      Seals left sealed middle.me new → answer ≡ start_after sealed → Starts answer old.me new
  starts-sealed answer sealed new open_yet seals is =
      record {
        read = sets.read;
        left = sets.left;
        left_is = left-joins;
        words = seals.words;
        last = seals.left;
        me_is = seals.me_is ∙ ap (λ (m : Seated P E). (tried seals.words seals.left m.0, m.1)) sets.me_is;
        starts = subst (λ w. StartsWhere (may_seal w) w seals.words seals.left answer) (sym sets.left_is)
            (subst (λ b. StartsWhere b left seals.words seals.left answer) (sym (join-seals open_yet)) (sealed, seals.tries, is));
      }
