use Rattle.plan_laws.proofs.cases.nodes_follow_cases.Goals as goal
use Rattle.plan_laws.proofs.Steps.{allowed-by-case}
use Rattle.plan_laws.proofs.Readings.{settled-by-case, calm-by-case}

pub returns : goal.returns
returns c = record { allowed = allowed-by-case; settled = settled-by-case; calm = calm-by-case }
