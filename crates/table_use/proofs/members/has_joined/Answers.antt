use Rattle.table_use.proofs.Associating.{ready-reads}
use Rattle.table_use.proofs.members.has_joined.Goals as goal

pub returns-clause-ready : goal.returns-clause-ready
returns-clause-ready c =
    ready-reads c.args.table.now c.args.hand.now c.is_joined.new.hand c.is_joined.ensures.stays.hand (λ w. w.joined) c.is_joined.result c.requires c.is_joined.ensures.read

pub returns-clause-read : goal.returns-clause-read
returns-clause-read c = c.is_joined.ensures.read
