use Rattle.exec_recv.proofs.Asiding.{aside-on}
use Rattle.node_walks.proofs.Read.{looked-aside}
use Rattle.run_loop.proofs.OneRun.{listed-still}
use Rattle.node_tests.proofs.tests.turns_until.Goals as goal

pub loop-turns-init : goal.loop-turns-init
loop-turns-init g c = record { ready = c.requires.ready; listed = c.requires.listed }

pub loop-turns-preserved : goal.loop-turns-preserved
loop-turns-preserved g c =
    let read = c.in_default.ensures.none.read in
    let turn = c.turn-taken.ensures in
    let before = c.loop-turns.looped.hand.me in
    let after = c.collect.new.self.hand.me in
    let last = c.turn-taken.new.self.hand.me in
    record {
      ready = turn.ready;
      listed = listed-still c.args.site.now c.args.block before last
          (aside-on before after last (looked-aside _ read.word before after read.is) turn.aside) c.loop-turns.invariant.listed;
    }
