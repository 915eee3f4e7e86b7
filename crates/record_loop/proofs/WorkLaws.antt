-- How operations go on.
use Rattle.std.proofs.Common.{refl, ◌∙◌}
use Rattle.record_loop.specs.Works.{Work, KeepsWork}

pub Keeps-nil : (work : Work) → KeepsWork work work
Keeps-nil work = record { plan = refl; table = refl; running = refl; requested = refl; collected = refl; tickets = λ t begun is. is }

pub Keeps-trans : {old mid new : Work} → KeepsWork old mid → KeepsWork mid new → KeepsWork old new
Keeps-trans first second = record {
  plan = second.plan ∙ first.plan;
  table = second.table ∙ first.table;
  running = second.running ∙ first.running;
  requested = second.requested ∙ first.requested;
  collected = second.collected ∙ first.collected;
  tickets = λ t begun is. second.tickets t begun (first.tickets t begun is);
}
