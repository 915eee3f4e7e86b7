-- How a run ends.
use Rattle.std.specs.Prelude.{◌≡◌, Option}
use Rattle.atomic_table.specs.declared.shared.Seat.{Seat}
use Rattle.life_rules.specs.declared.scope.ScopeState.TheVariants.{Joined}
use Rattle.plan_shape.specs.Blueprint.{Blueprint}
use Rattle.table_rules.specs.declared.view.View.{View}
use Rattle.table_rules.specs.Named.{AnyOf}
use Rattle.table_rules.specs.Traces.{all_steps}
use Rattle.table_steps.specs.Closings.{HasNothing, LeavesScope}
use Rattle.table_steps.specs.Views.{Board, IsHandOf, knows}
use Rattle.home_items.specs.declared.entry.Entry.{Entry}
use Rattle.home_items.specs.declared.item.Item.{Item}

-- A step of the hand, or of one that was joined to it, left the scope joined.
abbrev pub HasJoined : View Item Entry → Type 0
HasJoined v = AnyOf (LeavesScope Joined) (all_steps v)

-- The hand is of a table of which this holds. It has nothing any more, and gave back each block
-- that it claimed. It saw the scope joined.
pub record IsEnded (on : Board Blueprint → Type 0) (hand : Seat (Option Item) (View Item Entry))
    : Type 0 where
  pub board : Board Blueprint
  pub is_on : on board
  pub hand_of : IsHandOf board hand
  pub nothing : HasNothing (knows hand)
  pub even : (knows hand).claimed ≡ (knows hand).released
  pub joined : HasJoined (knows hand)
