use Rattle.start_laws.proofs.Walked.{alls-end}
use Rattle.start_laws.proofs.alls.alls_may_end.Goals as goal

pub returns : goal.returns
returns c = alls-end
