use Rattle.name_set.proofs.Bits.{unmark-here, unmark-other}
use Rattle.name_set.proofs.marks.unmark.Goals as goal

pub returns-clause-unmarked : goal.returns-clause-unmarked
returns-clause-unmarked c = unmark-here c.args.bits.now c.args.place c.requires

pub returns-clause-others : goal.returns-clause-others
returns-clause-others c k ne = unmark-other c.args.bits.now c.args.place c.requires k ne
