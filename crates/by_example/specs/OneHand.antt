-- A table with one block and one hand.
use Rattle.std.specs.Prelude.{◌≡◌, Option}
use Rattle.atomic_table.specs.declared.shared.Seat.{Seat}
use Rattle.exec_recv.specs.Over.{IsOver}
use Rattle.home_items.specs.declared.entry.Entry.{Entry}
use Rattle.home_items.specs.declared.item.Item.{Item}
use Rattle.plan_shape.specs.Blueprint.{Blueprint}
use Rattle.table_rules.specs.declared.view.View.{View}
use Rattle.table_steps.specs.Views.{Board}

-- what contracts see of a hand: its seat, with its view
abbrev pub TheHand : Type 0
TheHand = Seat (Option Item) (View Item Entry)

-- The table was opened over the plan, with one block and one hand.
pub record IsForOne (plan : Blueprint) (board : Board Blueprint) : Type 0 where
  pub over : IsOver board plan
  pub blocks : board.frame.layout.blocks ≡ 1
  pub hands : board.frame.hands ≡ 1
