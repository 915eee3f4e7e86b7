use Rattle.plan_kinds.proofs.law.nodes_run_under_one_shape.Goals as goal
use Rattle.plan_kinds.proofs.OneShape.{run-under_one_shape}

pub returns : goal.returns
returns c = run-under_one_shape
