-- The homes of a node and of its children, beside those of nodes whose start the hand owes.
use Rattle.std.specs.Prelude.{◌≡◌, false, Some}
use Rattle.life_rules.specs.declared.event.Name.{Name}
use Rattle.plan_shape.specs.Blueprint.{Blueprint}
use Rattle.table_rules.specs.declared.view.Owed.{Owed}
use Rattle.table_steps.specs.Views.{Board}
use Rattle.table_steps.specs.Seats.{Seated, view_of}
use Rattle.table_steps.specs.Slots.{slot_of, is_of_family, owed_at}
use Rattle.home_items.specs.declared.entry.Entry.{Entry}
use Rattle.home_items.specs.declared.item.Item.{Item}

-- No node whose start the hand owes has its home among those of x and of the children of x.
abbrev pub AreOwedElsewhere : Board Blueprint → Name → Seated Item Entry → Type 0
AreOwedElsewhere board x m =
    (y : Name) (owed : Owed Entry) → owed_at (view_of m) y ≡ Some owed →
    is_of_family board.frame.tree board.frame.layout x (slot_of board.frame.layout y) ≡ false
