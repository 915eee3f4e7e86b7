use Rattle.start_laws.proofs.Together.{alls-allowed}
use Rattle.start_laws.proofs.alls.alls_are_allowed.Goals as goal

pub returns : goal.returns
returns c = alls-allowed
