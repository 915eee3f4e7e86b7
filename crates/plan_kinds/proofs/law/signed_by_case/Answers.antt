use Rattle.plan_kinds.proofs.law.signed_by_case.Goals as goal
use Rattle.plan_kinds.proofs.Signed.{signed-by-case}

pub returns : goal.returns
returns c = signed-by-case
