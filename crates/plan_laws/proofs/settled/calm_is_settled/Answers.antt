use Rattle.plan_laws.proofs.settled.calm_is_settled.Goals as goal
use Rattle.plan_laws.proofs.OneCompletion.{calm-settled}

pub returns : goal.returns
returns c = calm-settled
