use Rattle.start_laws.proofs.LeafCases.{leaves-allowed}
use Rattle.start_laws.proofs.leaves.leaves_are_allowed.Goals as goal

pub returns : goal.returns
returns c = leaves-allowed
