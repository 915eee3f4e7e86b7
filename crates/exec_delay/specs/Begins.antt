-- How a `delay` begins to wait.
use Rattle.std.specs.Prelude.{◌≡◌, Bool, true, false, None}
use Rattle.exec_value.specs.declared.outcome.Completion.TheVariants.{Stopped}
use Rattle.life_rules.specs.declared.event.Resting.TheVariants.{Parked as IsParked}
use Rattle.plan_shape.specs.Blueprint.{Blueprint}
use Rattle.table_steps.specs.Views.{Board}
use Rattle.exec_recv.specs.declared.next.Next.{Next}
use Rattle.step_parts.specs.Takes.{HasJustBegun}
use Rattle.step_parts.specs.Completes.{Completes}
use Rattle.step_parts.specs.Leaves.{LeavesAt}
use Rattle.step_parts.specs.Listens.{Listens}
use Rattle.exec_recv.specs.Seats.{HandSeat}
use Rattle.step_parts.specs.Stepping.{Stepping}
use Rattle.exec_delay.specs.Ends.{IsDelaying}

module _ (board : Board Blueprint) (t : Stepping) where
  -- The step has come so far that the node can begin to wait.
  pub record MayBegin (hand : HandSeat) : Type 0 where
    pub delay : IsDelaying board t hand
    pub begun : HasJustBegun board t.name hand.me

  -- The node listened to the source above it: where a stop was requested there it completed
  -- stopped, and else it was left parked.
  pub record BeginsWaiting (next : Next) (old new : HandSeat) : Type 0 where
    pub answer : Bool
    pub middle : HandSeat
    pub listens : Listens board t.name answer old middle
    pub stops : answer ≡ true → Completes board t Stopped true next middle new
    pub parks : answer ≡ false → LeavesAt board t None IsParked next middle new
