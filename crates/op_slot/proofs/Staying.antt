-- A hand stays its table's through calls that follow each other.
use Rattle.std.proofs.Common.{Option, refl, ◌∙◌}
use Rattle.atomic_table.specs.declared.shared.Seat.{Seat}
use Rattle.table_rules.specs.declared.view.View.{View}
use Rattle.table_steps.specs.Views.{Board, IsHandOf, Stays}

module _ {P E O : Type 0} (board : Board O) where
  pub stays-here : (hand : Seat (Option P) (View P E)) → IsHandOf board hand → Stays board hand hand
  stays-here hand is = record { same = (refl, refl); hand = is }

  pub stays-on : (old between new : Seat (Option P) (View P E)) → Stays board old between →
      Stays board between new → Stays board old new
  stays-on old between new first next =
      record { same = (next.same.0 ∙ first.same.0, next.same.1 ∙ first.same.1); hand = next.hand }
