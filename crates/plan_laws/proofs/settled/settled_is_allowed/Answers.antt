use Rattle.plan_laws.proofs.settled.settled_is_allowed.Goals as goal
use Rattle.plan_laws.proofs.Memory.{allowed-memory}
use Rattle.plan_laws.proofs.Evaluation.{settled-allowed, settled-memory}

pub returns : goal.returns
returns c = record {
  allowed_has_memory = allowed-memory;
  settled_is_allowed = settled-allowed;
  settled_has_memory = settled-memory;
}
