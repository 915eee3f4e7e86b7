use Rattle.start_laws.proofs.Operands.{jobs-take}
use Rattle.start_laws.proofs.nodes.jobs_take_their_data.Goals as goal

pub returns : goal.returns
returns c = jobs-take
