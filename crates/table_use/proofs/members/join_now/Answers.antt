use Rattle.table_use.proofs.Associating.{ready-joins}
use Rattle.table_use.proofs.members.join_now.Goals as goal

pub returns-clause-ready : goal.returns-clause-ready
returns-clause-ready c =
    ready-joins c.args.table.now c.args.hand.now c.start_join.new.hand c.start_join.ensures.stays.hand c.start_join.result c.requires c.start_join.ensures.starts

pub returns-clause-starts : goal.returns-clause-starts
returns-clause-starts c = c.start_join.ensures.starts
