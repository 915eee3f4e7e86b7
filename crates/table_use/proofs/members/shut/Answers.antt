use Rattle.table_use.proofs.Associating.{ready-closed}
use Rattle.table_use.proofs.members.shut.Goals as goal

pub returns-clause-ready : goal.returns-clause-ready
returns-clause-ready c = ready-closed c.args.table.now c.args.hand.now c.close.new.hand c.close.ensures.stays.hand c.requires c.close.ensures.closed

pub returns-clause-closed : goal.returns-clause-closed
returns-clause-closed c = c.close.ensures.closed
