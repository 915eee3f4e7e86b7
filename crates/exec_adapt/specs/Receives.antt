-- What the step of the receiver node does ([exec.recv]).
use Rattle.std.specs.Prelude.{◌≡◌, ◌≢◌, ◌⊎◌, ℕ, Bool, true, false, Option, Some, None}
use Rattle.life_rules.specs.declared.event.Name.{Name}
use Rattle.life_rules.specs.declared.event.Resting.TheVariants.{Loop as InLoop}
use Rattle.life_rules.specs.Views.{beside}
use Rattle.plan_kinds.specs.TreeLaws.{IsTop}
use Rattle.plan_shape.specs.Blueprint.{Blueprint}
use Rattle.table_steps.specs.Readings.{IsBegunAs}
use Rattle.table_steps.specs.Views.{Board}
use Rattle.home_items.specs.declared.item.State.{State}
use Rattle.home_items.specs.declared.item.State.TheVariants.{Start as Begins}
use Rattle.home_items.specs.Entries.{child_of}
use Rattle.home_items.specs.Parcels.{Delivery}
use Rattle.exec_recv.specs.declared.next.Next.{Next}
use Rattle.exec_recv.specs.Seats.{HandSeat}
use Rattle.exec_recv.specs.Sites.{plan_at}
use Rattle.step_parts.specs.Leaves.{LeavesAt}
use Rattle.step_parts.specs.Starts.{StartsTop}
use Rattle.step_parts.specs.Stepping.{Stepping}
use Rattle.step_parts.specs.Takes.{TakesBack, TakesKept, TakesNew, TakesState}

module _ (board : Board Blueprint) (t : Stepping) (child : ℕ) where
  -- The child's word was read: where it said that the child has begun, the receiver node was left
  -- with its start alone, and else the child was started.
  pub record ReadsTop (next : Next) (old new : HandSeat) : Type 0 where
    pub begun : Bool
    pub middle : HandSeat
    pub read : IsBegunAs board.frame (beside t.name child) begun old.me middle.me
    pub has : begun ≡ true → LeavesAt board t None InLoop next middle new
    pub has_not : begun ≡ false → StartsTop board t child next middle new

  -- It is left ready in the loop with the parcel with which the child completed, which is collected
  -- there.
  abbrev pub LeavesWith : Delivery → Next → HandSeat → HandSeat → Type 0
  LeavesWith parcel next old new = LeavesAt board t (Some parcel) InLoop next old new

  -- The child hadn't completed since it rested: it was left with what it kept of the child, or
  -- started it.
  pub record RestsAgain (next : Next) (old new : HandSeat) : Type 0 where
    pub kept : Option Delivery
    pub middle : HandSeat
    pub takes : TakesKept board t kept old middle
    pub leaves : (parcel : Delivery) → kept ≡ Some parcel → LeavesWith parcel next middle new
    pub reads : kept ≡ None → ReadsTop next middle new

  -- It had begun: what lay in the homes of its children was taken.
  pub record Receives (next : Next) (old new : HandSeat) : Type 0 where
    pub answer : Option Delivery
    pub middle : HandSeat
    pub takes : TakesBack board t child answer old middle
    pub leaves : (parcel : Delivery) → answer ≡ Some parcel → LeavesWith parcel next middle new
    pub again : answer ≡ None → RestsAgain next middle new

module _ (board : Board Blueprint) (x : Name) (next : Next) (old new : HandSeat) where
  -- The receiver node starts the child that its start names.
  pub record ReceivesFirst (child : ℕ) : Type 0 where
    pub taken : Stepping
    pub up : HandSeat
    pub takes : TakesNew board x taken old up
    pub names : child_of taken.start ≡ Some child
    pub starts : StartsTop board taken child next up new

  -- Once that has completed, it keeps what the child completed with.
  pub record ReceivesBack (child : ℕ) : Type 0 where
    pub taken : Stepping
    pub state : State
    pub up : HandSeat
    pub takes : TakesState board x taken state old up
    pub begun : state ≢ Begins
    pub names : child_of taken.start ≡ Some child
    pub receives : Receives board taken child next up new

  -- So it is with the plan's root, or where the plan has an `ahead` the first child of one.
  pub record ReceivesTop : Type 0 where
    pub child : ℕ
    pub top : IsTop (plan_at board).nodes child
    pub does : ReceivesFirst child ⊎ ReceivesBack child
