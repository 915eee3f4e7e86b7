-- A node that a stop request stops completes stopped, where one was made before its start, or was seen.
use Rattle.std.proofs.Common.{◌≡◌, Bool, true, false, ◌||◌, refl, sym, subst}
use Rattle.std.specs.Prelude.{Option, Some, None, MatchOption}
use Rattle.exec_value.specs.declared.outcome.Completion.TheVariants.{Stopped, NoMemory}
use Rattle.plan_rules.specs.declared.node.Node.{Node}
use Rattle.plan_shape.specs.Blueprint.{Blueprint}
use Rattle.table_steps.specs.Views.{Board}
use Rattle.start_laws.specs.Leaves.{IsStoppable}
use Rattle.start_laws.proofs.Bounding.{few-begun}
use Rattle.start_laws.proofs.LeafCases.{stops-allowed}
use Rattle.home_items.specs.Parcels.{parcel_with}
use Rattle.exec_recv.specs.Seats.{HandSeat}
use Rattle.exec_recv.specs.Sites.{node_at}
use Rattle.step_parts.specs.Completes.{MayEnd, MayStop}
use Rattle.step_parts.specs.Midway.{Ready}
use Rattle.step_parts.specs.Stepping.{Stepping}
use Rattle.step_parts.proofs.Took.{taken-inner, taken-of}

stopped-memory : Stopped ≡ NoMemory → ⊥
stopped-memory e = cc

stoppable-of : (o : Option Node) → MatchOption o ⊥ IsStoppable → (node : Node) × (o ≡ Some node) × IsStoppable node
stoppable-of None is = absurd is
stoppable-of (Some node) is = (node, refl, is)

pub stop-ends : (board : Board Blueprint) (t : Stepping) (saw : Bool) (hand : HandSeat) → MayStop board t saw hand → MayEnd board t Stopped saw hand
stop-ends board t saw hand may =
    let found = stoppable-of (node_at board t.name) may.kind in
    let of = taken-of board t hand may.taken found.0 found.1 in
    record {
      taken = may.taken;
      inner = taken-inner board t hand may.taken found.0 found.1;
      allowed = stops-allowed t.start found.0 of found.2 saw may.asks;
      few = subst (λ k. Ready board t.name t.start k hand.me)
          (sym (few-begun.stopped (parcel_with t.start Stopped saw) found.0 of.node_is found.2 refl)) may.taken.ready;
      sees = may.sees;
      small = λ small. stopped-memory;
    }

-- a request that was seen is found
pub found-true : (asked : Bool) → (asked || true) ≡ true
found-true true = refl
found-true false = refl
