use Rattle.plan_kinds.proofs.law.jobs_keep_kinds.Goals as goal
use Rattle.plan_kinds.proofs.Jobs.{jobs-keep_kinds}

pub returns : goal.returns
returns c = jobs-keep_kinds
