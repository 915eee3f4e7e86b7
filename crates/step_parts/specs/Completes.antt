-- How a step ends where its node completes.
use Rattle.std.specs.Prelude.{◌≡◌, ◌≢◌, ◌||◌, Bool, true, false, Some, MatchOption}
use Rattle.exec_value.specs.declared.outcome.Completion.{Completion}
use Rattle.exec_value.specs.declared.outcome.Completion.TheVariants.{NoMemory}
use Rattle.node_tree.specs.Tree.{is_root}
use Rattle.plan_kinds.specs.Small.{IsSmall}
use Rattle.plan_shape.specs.Blueprint.{Blueprint}
use Rattle.table_steps.specs.Views.{Board}
use Rattle.table_steps.specs.Seats.{Seated}
use Rattle.table_steps.specs.Swaps.{IsSwapped}
use Rattle.home_items.specs.declared.entry.Entry.{Entry}
use Rattle.home_items.specs.declared.item.Item.{Item}
use Rattle.home_items.specs.Bounds.{least_of}
use Rattle.home_items.specs.Contents.{Done}
use Rattle.home_items.specs.Entries.{plan_of, asked_of}
use Rattle.home_items.specs.Parcels.{MayDeliver, parcel_with}
use Rattle.start_laws.specs.Leaves.{IsStoppable}
use Rattle.exec_recv.specs.declared.next.Next.{Next}
use Rattle.exec_recv.specs.Deliveries.{Delivers}
use Rattle.exec_recv.specs.Seats.{HandSeat}
use Rattle.exec_recv.specs.Sites.{node_at, Steps}
use Rattle.step_parts.specs.Heard.{MaySee}
use Rattle.step_parts.specs.Midway.{Ready, KeepsReady}
use Rattle.step_parts.specs.Stepping.{Stepping}
use Rattle.step_parts.specs.Takes.{IsTaken}

module _ (board : Board Blueprint) (t : Stepping) where
  module _ (done : Completion) (saw : Bool) where
    -- The node isn't the receiver node and may complete with this: it is allowed for its start,
    -- asks for no more children than were awaited, rests on no request that the hand hasn't heard
    -- of, and in a small plan isn't want of memory.
    pub record MayEnd (hand : HandSeat) : Type 0 where
      pub taken : IsTaken board t hand
      pub inner : is_root board.frame.tree t.name.node ≡ false
      pub allowed : MayDeliver t.start saw done
      pub few : Ready board t.name t.start (least_of (Done (parcel_with t.start done saw))) hand.me
      pub sees : MaySee board t.name saw hand.me
      pub small : IsSmall (plan_of t.start) → done ≢ NoMemory

    -- Its callback was settled; this was put into its home, and delivered; and the step ended.
    pub record Completes (next : Next) (old new : HandSeat) : Type 0 where
      pub steps : Steps board t.name next t.from new
      pub settled : Seated Item Entry
      pub keeps : KeepsReady board t.name old.me settled
      pub full : Seated Item Entry
      pub was : Item
      pub put : IsSwapped board.frame t.name (Some (Done (parcel_with t.start done saw)))
          (Some was) settled full
      pub delivers : Delivers board t.name next full new.me
      pub parcel_is : delivers.parcel ≡ parcel_with t.start done saw

  -- The node may be stopped, and a request was made before its start, or it saw one.
  pub record MayStop (saw : Bool) (hand : HandSeat) : Type 0 where
    pub taken : IsTaken board t hand
    pub kind : MatchOption (node_at board t.name) ⊥ IsStoppable
    pub asks : (asked_of t.start || saw) ≡ true
    pub sees : MaySee board t.name saw hand.me
