-- A `delay` begins to wait: it may complete stopped, or be left parked.
use Rattle.std.proofs.Common.{◌≡◌, true, None}
use Rattle.plan_rules.specs.declared.node.Node.TheVariants.{Delay}
use Rattle.plan_shape.specs.Blueprint.{Blueprint}
use Rattle.table_steps.specs.Views.{Board}
use Rattle.exec_recv.specs.Seats.{HandSeat}
use Rattle.exec_recv.specs.Sites.{node_at}
use Rattle.step_parts.specs.Completes.{MayStop}
use Rattle.step_parts.specs.Heard.{Looked}
use Rattle.step_parts.specs.Leaves.{MayLeave}
use Rattle.step_parts.specs.Stepping.{Stepping}
use Rattle.step_parts.specs.Takes.{IsTaken, Keeps}
use Rattle.step_parts.proofs.Asked.{look-sees}
use Rattle.step_parts.proofs.Ended.{taken-on}
use Rattle.step_parts.proofs.Stopping.{found-true}
use Rattle.step_parts.proofs.Took.{taken-leaves}
use Rattle.exec_delay.specs.Ends.{IsDelaying}
use Rattle.exec_delay.proofs.Stopped.{delay-of, delay-stoppable}

module _ (board : Board Blueprint) (t : Stepping) (old hand : HandSeat) (delay : IsDelaying board t old) (keeps : Keeps board t old hand) where
  -- where the look read a request, it may complete stopped
  pub look-stops : Looked board t.name true old.me hand.me → MayStop board t true hand
  look-stops looked = record {
    taken = taken-on board t old hand keeps delay.taken;
    kind = delay-stoppable (node_at board t.name) delay.kind;
    asks = found-true _;
    sees = look-sees board t.name true old.me hand.me looked;
  }

  -- else it may be parked
  pub look-parks : MayLeave board t None hand
  look-parks =
      let found = delay-of (node_at board t.name) delay.kind in
      taken-leaves board t hand (taken-on board t old hand keeps delay.taken) (Delay found.0) found.1 tt None tt
