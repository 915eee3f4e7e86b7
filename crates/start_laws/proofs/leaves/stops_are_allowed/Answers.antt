use Rattle.start_laws.proofs.LeafCases.{stops-allowed}
use Rattle.start_laws.proofs.leaves.stops_are_allowed.Goals as goal

pub returns : goal.returns
returns c = stops-allowed
