use Rattle.table_life_kept.proofs.Await.Adding.{adds-place, adds-one}
use Rattle.op_table.proofs.owing.add_children.Goals as goal

pub insert-requires-clause-place : goal.insert-requires-clause-place
insert-requires-clause-place c =
    adds-place c.args.name c.args.children.now c.args.owed.now c.loop-child.owed c.loop-child.child-index
    c.loop-child-test.true c.loop-child.invariant c.requires.places

pub insert-requires-clause-generation : goal.insert-requires-clause-generation
insert-requires-clause-generation c = c.loop-child.invariant.of_block

pub loop-child-preserved : goal.loop-child-preserved
loop-child-preserved c =
    adds-one c.args.name c.args.children.now c.args.owed.now c.loop-child.owed c.loop-child.child-index
    c.loop-child-test.true c.loop-child.invariant c.insert.new.self c.insert.ensures.layout c.insert.ensures.has
