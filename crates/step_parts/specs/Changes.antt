-- How what lies in the node's home is changed where it lies.
use Rattle.std.specs.Prelude.{◌≡◌, Some}
use Rattle.plan_shape.specs.Blueprint.{Blueprint}
use Rattle.table_steps.specs.Seats.{Seated}
use Rattle.table_steps.specs.Slots.{home_at}
use Rattle.table_steps.specs.Swaps.{IsSwapped}
use Rattle.table_steps.specs.Views.{Board, Stays}
use Rattle.home_items.specs.declared.entry.Entry.{Entry}
use Rattle.home_items.specs.declared.item.Item.{Item}
use Rattle.exec_recv.specs.Seats.{HandSeat}
use Rattle.step_parts.specs.Stepping.{Stepping}

module _ (board : Board Blueprint) (t : Stepping) (item : Item) where
  -- this lies in the node's home
  abbrev pub LiesAt : Seated Item Entry → Type 0
  LiesAt m = home_at board.frame.layout m t.name ≡ Some (Some item)

  -- It lies there in place of another. Nothing else changed.
  pub record ChangesTo (old new : HandSeat) : Type 0 where
    pub stays : Stays board old new
    pub was : Item
    pub put : IsSwapped board.frame t.name (Some item) (Some was) old.me new.me
