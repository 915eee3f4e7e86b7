use Rattle.start_laws.proofs.Begun.{children-begin}
use Rattle.start_laws.proofs.children.children_may_begin.Goals as goal

pub returns : goal.returns
returns c = children-begin
