use Rattle.table_use.proofs.Associating.{member-after}
use Rattle.table_use.proofs.members.enter.Goals as goal

pub returns-clause-member : goal.returns-clause-member
returns-clause-member c =
    member-after c.args.table.now c.args.hand.now c.associate.new.hand c.associate.ensures.stays.hand c.associate.result c.requires c.associate.ensures.counted

pub returns-clause-associated : goal.returns-clause-associated
returns-clause-associated c = c.associate.ensures.associated
