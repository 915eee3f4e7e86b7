-- How an `ahead` goes on from what a hand has of it.
use Rattle.std.specs.Prelude.{◌⊎◌, ℕ, Bool, false}
use Rattle.exec_value.specs.declared.outcome.Completion.{Completion}
use Rattle.exec_value.specs.declared.outcome.Completion.TheVariants.{NoMemory}
use Rattle.life_rules.specs.declared.event.Resting.TheVariants.{Parked}
use Rattle.plan_rules.specs.Settle.{ahead_of}
use Rattle.plan_shape.specs.Blueprint.{Blueprint}
use Rattle.table_steps.specs.Views.{Board, Stays, knows}
use Rattle.home_items.specs.Parcels.{Delivery}
use Rattle.exec_recv.specs.declared.next.Next.{Next}
use Rattle.exec_recv.specs.Asides.{KeepsAside}
use Rattle.exec_recv.specs.Seats.{HandSeat}
use Rattle.step_parts.specs.Completes.{Completes}
use Rattle.step_parts.specs.Heard.{Looked}
use Rattle.step_parts.specs.Leaves.{LeavesAt}
use Rattle.step_parts.specs.Starts.{StartsAgain}
use Rattle.step_parts.specs.Stepping.{Stepping}
use Rattle.step_parts.specs.Takes.{Keeps}
use Rattle.node_walks.specs.declared.completing.Ended.{Ended}
use Rattle.node_walks.specs.Resting.{IsAtRest}
use Rattle.node_walks.specs.Walks.{WalksAnyhow}
use Rattle.serve_ahead.specs.declared.taking.Served.{Served}
use Rattle.serve_ahead.specs.Spawned.{saw_joined}

-- The hand is at rest. All else that its view says is as before, but for requests that it has seen
-- and the list of its steps.
pub record RestsAfter (board : Board Blueprint) (old new : HandSeat) : Type 0 where
  pub stays : Stays board old new
  pub rests : IsAtRest (knows new)
  pub aside : KeepsAside old.me new.me

-- It was left parked, with what its second child completed with, where it has; and the hand went
-- on from there. It did nothing else.
pub record PutsBack (board : Board Blueprint) (served : Served) (old new : HandSeat) : Type 0 where
  pub next : Next
  pub left : HandSeat
  pub parks : LeavesAt board served.taken served.second Parked next old left
  pub after : WalksAnyhow board served.taken.name next left.me new.me

module _ (board : Board Blueprint) (t : Stepping) where
  -- Its second child was started where that hadn't begun, and the hand went on from there.
  pub record BeginsSecond (second : ℕ) (old new : HandSeat) : Type 0 where
    pub next : Next
    pub begun : HandSeat
    pub starts : StartsAgain board t second next old begun
    pub after : WalksAnyhow board t.name next begun.me new.me

  -- It completed with this, and says whether it saw a request; and the hand went on from there.
  pub record Serves (done : Completion) (saw : Bool) (old new : HandSeat) : Type 0 where
    pub next : Next
    pub completed : HandSeat
    pub completes : Completes board t done saw next old completed
    pub after : WalksAnyhow board t.name next completed.me new.me

  -- It looked whether a request was made, and then at its arguments; and it completed with what
  -- both came to, or with want of memory.
  pub record Joins (parcel : Delivery) (ended : Ended) (old new : HandSeat) : Type 0 where
    pub heard : Bool
    pub looked : HandSeat
    pub looks : Looked board t.name heard old.me looked.me
    pub middle : HandSeat
    pub keeps : Keeps board t looked middle
    pub how : Serves (ahead_of ended.collected.completion parcel.completion)
        (saw_joined parcel ended.collected.saw) middle new
        ⊎ Serves NoMemory false middle new
