-- What contracts see of a hand on a table over a plan.
use Rattle.std.specs.Prelude.{Option}
use Rattle.atomic_table.specs.declared.shared.Seat.{Seat}
use Rattle.table_rules.specs.declared.view.View.{View}
use Rattle.home_items.specs.declared.entry.Entry.{Entry}
use Rattle.home_items.specs.declared.item.Item.{Item}

abbrev pub HandSeat : Type 0
HandSeat = Seat (Option Item) (View Item Entry)
