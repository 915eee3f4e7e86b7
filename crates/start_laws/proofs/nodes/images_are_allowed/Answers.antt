use Rattle.start_laws.proofs.ImageCases.{images-allowed}
use Rattle.start_laws.proofs.nodes.images_are_allowed.Goals as goal

pub returns : goal.returns
returns c = images-allowed
