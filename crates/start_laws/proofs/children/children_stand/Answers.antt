use Rattle.start_laws.proofs.Places.{children-stand}
use Rattle.start_laws.proofs.children.children_stand.Goals as goal

pub returns : goal.returns
returns c = children-stand
