use Rattle.table_use.proofs.Associating.{ready-left}
use Rattle.table_use.proofs.members.leave.Goals as goal

pub returns-clause-ready : goal.returns-clause-ready
returns-clause-ready c = ready-left c.args.table.now c.args.hand.now c.disassociate.new.hand c.disassociate.ensures.stays.hand c.requires c.disassociate.ensures.left

pub returns-clause-left : goal.returns-clause-left
returns-clause-left c = c.disassociate.ensures.left
