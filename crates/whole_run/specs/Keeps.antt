-- What a step on the scope's word leaves of a hand's view.
use Rattle.std.specs.Prelude.{◌≡◌, []}
use Rattle.table_steps.specs.Seats.{Seated, view_of}
use Rattle.home_items.specs.declared.entry.Entry.{Entry}
use Rattle.home_items.specs.declared.item.Item.{Item}

-- Beside the list of steps the view is as it was.
abbrev pub KeepsView : Seated Item Entry → Seated Item Entry → Type 0
KeepsView m m' = record (view_of m') { steps = [] } ≡ record (view_of m) { steps = [] }
