-- A hand that a loop may begin with.
use Rattle.std.specs.Prelude.{◌≡◌, Option}
use Rattle.atomic_table.specs.declared.shared.Seat.{Seat}
use Rattle.plan_shape.specs.Blueprint.{Blueprint}
use Rattle.table_rules.specs.declared.view.View.{View}
use Rattle.table_steps.specs.Views.{Board, IsHandOf, knows}
use Rattle.home_items.specs.declared.entry.Entry.{Entry}
use Rattle.home_items.specs.declared.item.Item.{Item}
use Rattle.node_walks.specs.Resting.{IsAtRest}

-- The hand is hand 0 of the table, and at rest.
pub record IsFirst (board : Board Blueprint)
    (hand : Seat (Option Item) (View Item Entry)) : Type 0 where
  pub hand_of : IsHandOf board hand
  pub first : (knows hand).number ≡ 0
  pub rests : IsAtRest (knows hand)
