-- A `delay` that was parked completes: stopped where its callback ran, and else with no data.
use Rattle.std.proofs.Common.{◌≡◌, ◌≢◌, Bool, true, false, ◌||◌, [], sym, ap, ◌∙◌, subst}
use Rattle.exec_value.specs.declared.outcome.Completion.{Completion}
use Rattle.exec_value.specs.declared.outcome.Completion.TheVariants.{Value, NoMemory}
use Rattle.plan_rules.specs.declared.node.Node.TheVariants.{Delay}
use Rattle.plan_rules.specs.Settle.{unless_asked}
use Rattle.plan_shape.specs.Blueprint.{Blueprint}
use Rattle.table_steps.specs.Views.{Board}
use Rattle.home_items.specs.Parcels.{MayDeliver, parcel_with}
use Rattle.start_laws.proofs.Bounding.{few-begun}
use Rattle.start_laws.proofs.LeafCases.{leaves-allowed}
use Rattle.step_parts.specs.Heard.{MaySee}
use Rattle.step_parts.specs.Midway.{Ready}
use Rattle.step_parts.specs.Completes.{MayEnd}
use Rattle.exec_recv.specs.Seats.{HandSeat}
use Rattle.exec_recv.specs.Sites.{node_at}
use Rattle.step_parts.specs.Stepping.{Stepping}
use Rattle.step_parts.specs.Takes.{IsTaken}
use Rattle.step_parts.proofs.Took.{taken-inner, taken-of}
use Rattle.exec_delay.specs.Ends.{MayGoOn}
use Rattle.exec_delay.proofs.Stopped.{delay-of}

not-memory : (ran : Bool) → unless_asked ran (Value []) ≢ NoMemory
not-memory true e = cc
not-memory false e = cc

pub end-ends : (board : Board Blueprint) (t : Stepping) (old hand : HandSeat) → MayGoOn board t old → IsTaken board t hand →
    (ran : Bool) → MaySee board t.name ran hand.me → (done : Completion) → done ≡ unless_asked ran (Value []) → MayEnd board t done ran hand
end-ends board t old hand may taken ran sees done made =
    let found = delay-of (node_at board t.name) may.delay.kind in
    let of = taken-of board t hand taken (Delay found.0) found.1 in
    record {
      taken = taken;
      inner = taken-inner board t hand taken (Delay found.0) found.1;
      allowed = subst (λ (c : Completion). MayDeliver t.start ran c)
          (ap (λ b. unless_asked (b || ran) (Value [])) may.unasked ∙ sym made)
          (leaves-allowed.seen t.start (Delay found.0) of tt ran);
      few = subst (λ k. Ready board t.name t.start k hand.me)
          (sym (few-begun.leaf (parcel_with t.start done ran) (Delay found.0) of.node_is tt)) taken.ready;
      sees = sees;
      small = λ small e. not-memory ran (sym made ∙ e);
    }
