use Rattle.name_set.proofs.Bits.{mark-here, mark-other}
use Rattle.name_set.proofs.marks.mark.Goals as goal

pub returns-clause-marked : goal.returns-clause-marked
returns-clause-marked c = mark-here c.args.bits.now c.args.place c.requires

pub returns-clause-others : goal.returns-clause-others
returns-clause-others c k ne = mark-other c.args.bits.now c.args.place c.requires k ne
