use Rattle.start_laws.proofs.Bounding.{few-begun}
use Rattle.start_laws.proofs.children.few_are_begun.Goals as goal

pub returns : goal.returns
returns c = few-begun
