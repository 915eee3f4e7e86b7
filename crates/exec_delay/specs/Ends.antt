-- How a `delay` completes: stopped, or with no data.
use Rattle.std.specs.Prelude.{◌≡◌, Bool, false, []}
use Rattle.exec_value.specs.declared.outcome.Completion.TheVariants.{Value}
use Rattle.plan_rules.specs.Settle.{unless_asked}
use Rattle.plan_shape.specs.Blueprint.{Blueprint}
use Rattle.table_steps.specs.Views.{Board}
use Rattle.home_items.specs.Entries.{asked_of}
use Rattle.exec_recv.specs.declared.next.Next.{Next}
use Rattle.step_parts.specs.Completes.{Completes}
use Rattle.exec_recv.specs.Seats.{HandSeat}
use Rattle.exec_recv.specs.Sites.{node_at}
use Rattle.step_parts.specs.Stepping.{Stepping}
use Rattle.step_parts.specs.Takes.{IsTaken}
use Rattle.exec_delay.specs.Kinds.{IsDelay}
use Rattle.exec_delay.specs.Withdraws.{Withdraws}

module _ (board : Board Blueprint) (t : Stepping) where
  -- The step of a `delay` goes on.
  pub record IsDelaying (hand : HandSeat) : Type 0 where
    pub taken : IsTaken board t hand
    pub kind : IsDelay (node_at board t.name)

  -- The step has come so far that the node, which was parked, can complete.
  pub record MayGoOn (hand : HandSeat) : Type 0 where
    pub delay : IsDelaying hand
    pub unasked : asked_of t.start ≡ false

  -- The callback was removed, and then the node completed: stopped where the callback had run, and
  -- else with no data.
  pub record EndsWaiting (next : Next) (old new : HandSeat) : Type 0 where
    pub ran : Bool
    pub middle : HandSeat
    pub withdraws : Withdraws board t.name ran old middle
    pub completed : Completes board t (unless_asked ran (Value [])) ran next middle new
