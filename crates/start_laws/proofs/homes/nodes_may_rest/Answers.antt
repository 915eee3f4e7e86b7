use Rattle.start_laws.proofs.Putting.{nodes-rest}
use Rattle.start_laws.proofs.homes.nodes_may_rest.Goals as goal

pub returns : goal.returns
returns c = nodes-rest
