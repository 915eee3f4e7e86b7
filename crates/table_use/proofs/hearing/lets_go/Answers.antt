use Rattle.op_slot.proofs.Leaving.{tends-home}
use Rattle.table_use.proofs.Roots.{root-ends}
use Rattle.table_use.proofs.hearing.lets_go.Goals as goal

pub take_home-start-requires-clause-home : goal.take_home-start-requires-clause-home
take_home-start-requires-clause-home c κs =
    let has = c.requires.holds.has in
    tends-home c.args.table.now.frame c.args.root c.args.hand.now.me has.held _ _ has.tends

pub finish-requires-clause-needs : goal.finish-requires-clause-needs
finish-requires-clause-needs c κs =
    root-ends c.args.table.now c.args.root c.requires.root c.args.settled c.args.hand.now.me c.take_home-start.new.hand.me c.requires.holds c.requires.calm
    c.take_home-start.result c.take_home-start.ensures.taken

pub returns-clause-finished : goal.returns-clause-finished
returns-clause-finished c =
    record {
      item = c.take_home-start.result;
      middle = c.take_home-start.new.hand;
      taken = c.take_home-start.ensures.taken;
      finished = c.finish.ensures.finished;
    }
