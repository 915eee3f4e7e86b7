-- What the step of a `when_all` does ([exec.when.all]).
use Rattle.std.specs.Prelude.{◌≡◌, ◌≢◌, ◌⊎◌, ℕ, true, false, List, length, Option, Some, None, IfSome}
use Rattle.exec_value.specs.declared.outcome.Completion.TheVariants.{Stopped}
use Rattle.life_rules.specs.declared.event.Name.{Name}
use Rattle.life_rules.specs.declared.event.Resting.TheVariants.{Loop as InLoop}
use Rattle.plan_rules.specs.declared.node.Node.TheVariants.{WhenAll}
use Rattle.plan_shape.specs.Blueprint.{Blueprint}
use Rattle.table_steps.specs.Views.{Board}
use Rattle.home_items.specs.declared.item.State.{State}
use Rattle.home_items.specs.declared.item.State.TheVariants.{Start as Begins}
use Rattle.home_items.specs.Entries.{asked_of}
use Rattle.exec_recv.specs.declared.next.Next.{Next}
use Rattle.exec_recv.specs.Seats.{HandSeat}
use Rattle.exec_recv.specs.Sites.{node_at}
use Rattle.step_parts.specs.Completes.{Completes}
use Rattle.step_parts.specs.Leaves.{LeavesAt}
use Rattle.step_parts.specs.Midway.{Ready}
use Rattle.step_parts.specs.Stepping.{Stepping}
use Rattle.step_parts.specs.Takes.{IsTaken, TakesNew, TakesState}
use Rattle.exec_all.specs.declared.joining.Joining.{Joining}
use Rattle.exec_all.specs.Begins.{BeginsAll}
use Rattle.exec_all.specs.Ends.{EndsAll}
use Rattle.exec_all.specs.Opens.{HaveJoined, TakesAll}

-- The homes of its children, which it awaited, were emptied. Where a request was made before the
-- operation was started, it completed stopped. Else, where all have completed, it completed with
-- what they come to together; and where one hasn't, it was left as it was, ready in the loop.
pub record StepsBegun (board : Board Blueprint) (t : Stepping) (children : List ℕ) (next : Next)
    (old new : HandSeat) : Type 0 where
  pub all : Option Joining
  pub middle : HandSeat
  pub takes : TakesAll board t children all old middle
  pub taken : IsTaken board t middle
  pub awaited : Ready board t.name t.start (length children) middle.me
  pub joined : IfSome all (λ joining. HaveJoined board t children joining middle.me)
  pub stops : asked_of t.start ≡ true → Completes board t Stopped false next middle new
  pub ends : (joining : Joining) → asked_of t.start ≡ false → all ≡ Some joining →
      EndsAll board t joining next middle new
  pub waits : asked_of t.start ≡ false → all ≡ None →
      LeavesAt board t None InLoop next middle new

module _ (board : Board Blueprint) (x : Name) (next : Next) (old new : HandSeat) where
  -- First it begins its children, unless a stop stands.
  pub record AllFirst (children : List ℕ) : Type 0 where
    pub taken : Stepping
    pub up : HandSeat
    pub takes : TakesNew board x taken old up
    pub begins : BeginsAll board taken children next up new

  -- Then it completes.
  pub record AllOn (children : List ℕ) : Type 0 where
    pub taken : Stepping
    pub state : State
    pub up : HandSeat
    pub takes : TakesState board x taken state old up
    pub begun : state ≢ Begins
    pub steps : StepsBegun board taken children next up new

  pub record StepsAll : Type 0 where
    pub children : List ℕ
    pub node_is : node_at board x ≡ Some (WhenAll children)
    pub does : AllFirst children ⊎ AllOn children
