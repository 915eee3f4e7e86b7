use Rattle.start_laws.proofs.Reporting.{steps-end}
use Rattle.start_laws.proofs.steps.steps_may_end.Goals as goal

pub returns : goal.returns
returns c = steps-end
