use Rattle.start_laws.proofs.ImageCases.{want-passes}
use Rattle.start_laws.proofs.nodes.want_passes.Goals as goal

pub returns : goal.returns
returns c = want-passes
