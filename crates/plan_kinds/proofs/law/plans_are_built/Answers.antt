use Rattle.plan_kinds.proofs.law.plans_are_built.Goals as goal
use Rattle.plan_kinds.proofs.Plans.{plans-built}

pub returns : goal.returns
returns c = plans-built
