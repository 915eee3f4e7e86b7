use Rattle.std.proofs.Common.{refl}
use Rattle.exec_recv.proofs.Asiding.{aside-here, aside-on}
use Rattle.deck_relay.specs.Desks.{desk-here, desk-on}
use Rattle.steal_pool.proofs.Searched.{ended-before, same-on}
use Rattle.steal_pool.proofs.worker.Worker.serve.Goals as goal

pub loop-init : goal.loop-init
loop-init g c =
    record {
      next = tt;
      finite = tt;
      ready = c.requires.ready;
      same = (refl, refl);
      aside = aside-here c.args.self.now.hand.me;
      desk = desk-here c.args.self.now.offers.desk;
    }

pub loop-preserved : goal.loop-preserved
loop-preserved g c =
    let before = c.loop.invariant in
    let round = c.has_ended.ensures in
    record {
      next = tt;
      finite = tt;
      ready = round.ready;
      same = same-on c.args.self.now.hand c.loop.self.hand c.has_ended.new.self.hand before.same round.same;
      aside = aside-on c.args.self.now.hand.me c.loop.self.hand.me c.has_ended.new.self.hand.me before.aside round.aside;
      desk = desk-on c.args.self.now.offers.desk c.loop.self.offers.desk c.has_ended.new.self.offers.desk before.desk round.desk;
    }

pub returns-then-has_ended : goal.returns-then-has_ended
returns-then-has_ended g c =
    let board = c.args.site.now in
    let before = c.loop.invariant in
    let round = c.has_ended.ensures in
    let old = c.args.self.now.hand.me in
    let between = c.loop.self.hand.me in
    let new = c.has_ended.new.self.hand.me in
    record {
      ready = round.ready;
      same = same-on c.args.self.now.hand c.loop.self.hand c.has_ended.new.self.hand before.same round.same;
      aside = aside-on old between new before.aside round.aside;
      ended = ended-before board old between new before.aside (round.ended c.if-has_ended.true);
      desk = desk-on c.args.self.now.offers.desk c.loop.self.offers.desk c.has_ended.new.self.offers.desk before.desk round.desk;
    }
