use Rattle.plan_kinds.proofs.law.kinds_kept.Goals as goal
use Rattle.plan_kinds.proofs.Kept.{kinds-kept}

pub returns : goal.returns
returns c = kinds-kept
