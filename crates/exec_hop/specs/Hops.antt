-- What the step of a hop, and that of a node that shelters its child, does. A request stops a node
-- that hops: one that was made before the operation was started, wherever the node is; and one that
-- its look reads, when it was taken in its context. No other does.
use Rattle.std.specs.Prelude.{◌≡◌, ◌≢◌, ◌⊎◌, ◌||◌, ℕ, Bool, true, false, [], Option, Some, None}
use Rattle.exec_value.specs.declared.outcome.Completion.TheVariants.{Value, Stopped}
use Rattle.life_rules.specs.declared.event.Name.{Name}
use Rattle.node_tree.specs.declared.context.Context.{Context}
use Rattle.plan_rules.specs.declared.node.Node.TheVariants.{Schedule, StartsOn as IsStartsOn, ContinuesOn as IsContinuesOn, Unstoppable}
use Rattle.plan_rules.specs.Settle.{unless_asked}
use Rattle.plan_shape.specs.Blueprint.{Blueprint}
use Rattle.table_steps.specs.Takes.{resting_in}
use Rattle.table_steps.specs.Views.{Board}
use Rattle.home_items.specs.declared.item.State.{State}
use Rattle.home_items.specs.declared.item.State.TheVariants.{Start as Begins}
use Rattle.home_items.specs.Entries.{asked_of}
use Rattle.home_items.specs.Parcels.{Delivery}
use Rattle.exec_recv.specs.declared.next.Next.{Next}
use Rattle.exec_recv.specs.Seats.{HandSeat}
use Rattle.exec_recv.specs.Sites.{node_at}
use Rattle.step_parts.specs.Completes.{Completes}
use Rattle.step_parts.specs.Heard.{Looked}
use Rattle.step_parts.specs.Leaves.{LeavesAt}
use Rattle.step_parts.specs.Starts.{StartsAgain, StartsChild}
use Rattle.step_parts.specs.Stepping.{Stepping}
use Rattle.step_parts.specs.Takes.{TakesBegun, TakesKept, TakesNew, TakesState}

module _ (board : Board Blueprint) (t : Stepping) where
  -- the node completed as its child did
  abbrev pub Passes : Delivery → Next → HandSeat → HandSeat → Type 0
  Passes parcel next old new = Completes board t parcel.completion parcel.saw next old new

  -- It was left ready in the context, with this parcel of its child, where it has one; or it
  -- completed stopped, where a request was made before the operation was started.
  pub record LandsIn (on : Context) (kept : Option Delivery) (next : Next)
      (old new : HandSeat) : Type 0 where
    pub stops : asked_of t.start ≡ true → Completes board t Stopped false next old new
    pub lands : asked_of t.start ≡ false → LeavesAt board t kept (resting_in on) next old new

  -- where a request was found it completed stopped, and else as its child did
  pub record EndsWith (parcel : Delivery) (saw : Bool) (next : Next)
      (old new : HandSeat) : Type 0 where
    pub stops : (asked_of t.start || saw) ≡ true → Completes board t Stopped saw next old new
    pub passes : (asked_of t.start || saw) ≡ false → Passes parcel next old new

  -- where a request was found it completed stopped, and else its child was started
  pub record StartsOrStops (child : ℕ) (saw : Bool) (next : Next)
      (old new : HandSeat) : Type 0 where
    pub stops : (asked_of t.start || saw) ≡ true → Completes board t Stopped saw next old new
    pub starts : (asked_of t.start || saw) ≡ false → StartsAgain board t child next old new

  -- It looked, and then completed: stopped where a request was found, and else with no data.
  pub record Finishes (next : Next) (old new : HandSeat) : Type 0 where
    pub saw : Bool
    pub middle : HandSeat
    pub looked : Looked board t.name saw old.me middle.me
    pub completes : Completes board t (unless_asked (asked_of t.start || saw) (Value [])) saw next
        middle new

  -- It looked, and then started its child where no request was found.
  pub record LooksAndStarts (child : ℕ) (next : Next) (old new : HandSeat) : Type 0 where
    pub saw : Bool
    pub middle : HandSeat
    pub looked : Looked board t.name saw old.me middle.me
    pub starts : StartsOrStops child saw next middle new

  -- It looked, and then completed as its child did where no request was found.
  pub record LooksAndEnds (parcel : Delivery) (next : Next) (old new : HandSeat) : Type 0 where
    pub saw : Bool
    pub middle : HandSeat
    pub looked : Looked board t.name saw old.me middle.me
    pub ends : EndsWith parcel saw next middle new

  -- The child hadn't completed since the node rested. With what the node kept of it, it completed
  -- so, unless its look found a request; else it started its child.
  pub record Lands (child : ℕ) (next : Next) (old new : HandSeat) : Type 0 where
    pub kept : Option Delivery
    pub middle : HandSeat
    pub takes : TakesKept board t kept old middle
    pub ends : (parcel : Delivery) → kept ≡ Some parcel → LooksAndEnds parcel next middle new
    pub starts : kept ≡ None → StartsOrStops child false next middle new

module _ (board : Board Blueprint) (x : Name) (next : Next) (old new : HandSeat) where
  -- A `schedule` hops at once, and when it is taken there it completes.
  pub record Schedules : Type 0 where
    pub on : Context
    pub node : node_at board x ≡ Some (Schedule on)
    pub taken : Stepping
    pub state : State
    pub up : HandSeat
    pub takes : TakesState board x taken state old up
    pub hops : state ≡ Begins → LandsIn board taken on None next up new
    pub ends : state ≢ Begins → Finishes board taken next up new

  -- A `starts_on` hops at once.
  pub record HopsFirst (on : Context) : Type 0 where
    pub taken : Stepping
    pub up : HandSeat
    pub takes : TakesNew board x taken old up
    pub hops : LandsIn board taken on None next up new

  -- When it is taken there it starts its child, and it completes as the child does.
  pub record GoesOnFrom (child : ℕ) : Type 0 where
    pub taken : Stepping
    pub answer : Option Delivery
    pub middle : HandSeat
    pub takes : TakesBegun board x child taken answer old middle
    pub ends : (parcel : Delivery) → answer ≡ Some parcel →
        EndsWith board taken parcel false next middle new
    pub starts : answer ≡ None → LooksAndStarts board taken child next middle new

  pub record StartsOn : Type 0 where
    pub on : Context
    pub child : ℕ
    pub node : node_at board x ≡ Some (IsStartsOn on child)
    pub does : HopsFirst on ⊎ GoesOnFrom child

  -- A `continues_on` starts its child, unless a request was made before the operation was started.
  pub record StartsFirst (child : ℕ) : Type 0 where
    pub taken : Stepping
    pub up : HandSeat
    pub takes : TakesNew board x taken old up
    pub stops : asked_of taken.start ≡ true → Completes board taken Stopped false next up new
    pub starts : asked_of taken.start ≡ false → StartsChild board taken child next up new

  -- It hops with what the child completed with, and when it is taken there completes so.
  pub record HopsWith (child : ℕ) (on : Context) : Type 0 where
    pub taken : Stepping
    pub answer : Option Delivery
    pub middle : HandSeat
    pub takes : TakesBegun board x child taken answer old middle
    pub hops : (parcel : Delivery) → answer ≡ Some parcel →
        LandsIn board taken on (Some parcel) next middle new
    pub lands : answer ≡ None → Lands board taken child next middle new

  pub record ContinuesOn : Type 0 where
    pub child : ℕ
    pub on : Context
    pub node : node_at board x ≡ Some (IsContinuesOn child on)
    pub does : StartsFirst child ⊎ HopsWith child on

  -- An `unstoppable` starts its child, as if no request was made.
  pub record SheltersFirst (child : ℕ) : Type 0 where
    pub taken : Stepping
    pub up : HandSeat
    pub takes : TakesNew board x taken old up
    pub starts : StartsChild board taken child next up new

  -- It completes as the child does.
  pub record SheltersOn (child : ℕ) : Type 0 where
    pub taken : Stepping
    pub answer : Option Delivery
    pub middle : HandSeat
    pub takes : TakesBegun board x child taken answer old middle
    pub ends : (parcel : Delivery) → answer ≡ Some parcel →
        Passes board taken parcel next middle new
    pub starts : answer ≡ None → StartsAgain board taken child next middle new

  pub record Shelters : Type 0 where
    pub child : ℕ
    pub node : node_at board x ≡ Some (Unstoppable child)
    pub does : SheltersFirst child ⊎ SheltersOn child
