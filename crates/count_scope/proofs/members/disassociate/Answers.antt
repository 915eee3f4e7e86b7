use Rattle.count_scope.proofs.Leaving.{disassociates}
use Rattle.count_scope.proofs.members.disassociate.Goals as goal

pub returns-clause-left : goal.returns-clause-left
returns-clause-left g c = disassociates c.args.hand.now.me c.leave.new.hand.me c.requires.has c.leave.ensures.left
