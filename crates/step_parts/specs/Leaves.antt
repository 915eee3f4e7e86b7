-- How a step ends where its node goes on later.
use Rattle.std.specs.Prelude.{◌≡◌, ◌≢◌, Option, Some}
use Rattle.exec_value.specs.declared.outcome.Completion.TheVariants.{NoMemory}
use Rattle.life_rules.specs.declared.event.Resting.{Resting}
use Rattle.life_rules.specs.declared.words.ControlWord.TheVariants.{Busy}
use Rattle.life_rules.specs.Words.{resting_at}
use Rattle.plan_kinds.specs.Small.{IsSmall}
use Rattle.plan_shape.specs.Blueprint.{Blueprint}
use Rattle.table_steps.specs.Views.{Board, aim_at}
use Rattle.table_steps.specs.Seats.{Seated}
use Rattle.table_steps.specs.Lefts.{LeavesControl}
use Rattle.table_steps.specs.Rests.{RestsAt}
use Rattle.table_steps.specs.Swaps.{IsSwapped}
use Rattle.home_items.specs.declared.entry.Entry.{Entry}
use Rattle.home_items.specs.declared.item.Item.{Item}
use Rattle.home_items.specs.Bounds.{least_of}
use Rattle.home_items.specs.Contents.{Rest}
use Rattle.home_items.specs.Entries.{plan_of}
use Rattle.home_items.specs.Fits.{KeepsChild, MayRest}
use Rattle.home_items.specs.Items.{completion_in, saw_in}
use Rattle.home_items.specs.Parcels.{Delivery}
use Rattle.exec_recv.specs.declared.next.Next.{Next}
use Rattle.exec_recv.specs.Nexts.{next_for}
use Rattle.exec_recv.specs.Seats.{HandSeat}
use Rattle.exec_recv.specs.Sites.{Steps}
use Rattle.step_parts.specs.Heard.{MaySee}
use Rattle.step_parts.specs.Midway.{Ready}
use Rattle.step_parts.specs.Stepping.{Stepping}
use Rattle.step_parts.specs.Takes.{IsTaken}

module _ (board : Board Blueprint) (t : Stepping) (kept : Option Delivery) where
  -- The node may go on later with this parcel of its child.
  pub record MayKeep (hand : HandSeat) : Type 0 where
    pub taken : IsTaken board t hand
    pub few : Ready board t.name t.start (least_of (Rest t.start kept)) hand.me
    pub child : KeepsChild (Rest t.start kept)
    pub saw : MaySee board t.name (saw_in (Rest t.start kept)) hand.me
    pub small : IsSmall (plan_of t.start) → completion_in (Rest t.start kept) ≢ Some NoMemory

  -- and it can rest so
  pub record MayLeave (hand : HandSeat) : Type 0 where
    pub keep : MayKeep hand
    pub rests : MayRest (Rest t.start kept) t.name.node

  -- Its home keeps its start and this parcel, and it was left at rest there; and the step ended.
  pub record LeavesAt (to : Resting) (next : Next) (old new : HandSeat) : Type 0 where
    pub steps : Steps board t.name next t.from new
    pub next_is : next ≡ next_for to
    pub full : Seated Item Entry
    pub was : Item
    pub put : IsSwapped board.frame t.name (Some (Rest t.start kept)) (Some was) old.me full
    pub rested : LeavesControl (aim_at board t.name) (Busy 0) (resting_at to)
        (RestsAt (aim_at board t.name)) full new.me
