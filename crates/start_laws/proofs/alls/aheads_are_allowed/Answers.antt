use Rattle.start_laws.proofs.Together.{aheads-allowed}
use Rattle.start_laws.proofs.alls.aheads_are_allowed.Goals as goal

pub returns : goal.returns
returns c = aheads-allowed
