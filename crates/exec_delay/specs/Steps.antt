-- What the step of a `delay` does.
use Rattle.std.specs.Prelude.{◌≡◌, true, false, None}
use Rattle.exec_value.specs.declared.outcome.Completion.TheVariants.{Stopped}
use Rattle.life_rules.specs.declared.event.Name.{Name}
use Rattle.plan_shape.specs.Blueprint.{Blueprint}
use Rattle.table_steps.specs.Views.{Board}
use Rattle.home_items.specs.Entries.{asked_of}
use Rattle.exec_recv.specs.declared.next.Next.{Next}
use Rattle.step_parts.specs.declared.taken.TakenUp.{TakenUp}
use Rattle.step_parts.specs.Completes.{Completes}
use Rattle.exec_recv.specs.Seats.{HandSeat}
use Rattle.step_parts.specs.Takes.{is_new, TakesUp}
use Rattle.exec_delay.specs.Begins.{BeginsWaiting}
use Rattle.exec_delay.specs.Ends.{EndsWaiting}

-- x was taken up. Where a request was made before the operation was started, x completed stopped.
-- Else, from its start, it listened to the source above it, and was left parked, unless a stop was
-- requested there; and where it was parked before, its callback was removed, and it completed:
-- stopped where that had run, and else with no data.
pub record StepsDelay (board : Board Blueprint) (x : Name) (next : Next) (old new : HandSeat) :
    Type 0 where
  pub up : TakenUp
  pub middle : HandSeat
  pub takes : TakesUp board x None up old middle
  pub stops : asked_of up.taken.start ≡ true →
      Completes board up.taken Stopped false next middle new
  pub begins : asked_of up.taken.start ≡ false → is_new up.found ≡ true →
      BeginsWaiting board up.taken next middle new
  pub ends : asked_of up.taken.start ≡ false → is_new up.found ≡ false →
      EndsWaiting board up.taken next middle new
