use Rattle.std.proofs.Common.{◌≡◌, arith, refl}
use Rattle.deck_relay.specs.SameDecks.{keeps-here, keeps-on}
use Rattle.run_loop.specs.Loops.{deck_of}
use Rattle.record_operations.proofs.Telling.{told-on, completes-one, completes-all}
use Rattle.record_operations.proofs.later_mail.LaterMail.tell.Goals as goal

pub loop-ready-init : goal.loop-ready-init
loop-ready-init g c =
    record {
      rest = refl;
      deck = keeps-here (deck_of c.args.looped.now);
      tells = λ names told. told;
    }

pub loop-ready-preserved : goal.loop-ready-preserved
loop-ready-preserved g c =
    let before = c.loop-ready.invariant in
    let lent : c.deref-ready-items.result.now ≡ c.args.self.now.list.items = cc in
    record {
      rest = told-on c.args.looped.now c.loop-ready.looped c.tell.new.self before.rest c.tell.ensures.rest;
      deck = keeps-on (deck_of c.args.looped.now) (deck_of c.loop-ready.looped) (deck_of c.tell.new.self) before.deck c.tell.ensures.deck;
      tells = completes-one c.args.self.now.list.items c.args.looped.now.names c.deref-ready-items.result.now lent c.loop-ready.ready-index
          c.loop-ready.looped.names c.tell.new.self.names _ c.loop-ready-test.true before.tells c.tell.ensures.hears;
    }

pub returns-then-self-clause-tells : goal.returns-then-self-clause-tells
returns-then-self-clause-tells g c =
    let past = c.loop-ready-test.false in
    completes-all c.args.self.now.list.items c.args.looped.now.names c.loop-ready.ready-index c.loop-ready.looped.names
    (omega (arith, past)) c.loop-ready.invariant.tells

pub returns-else-self-clause-tells : goal.returns-else-self-clause-tells
returns-else-self-clause-tells g c =
    let past = c.loop-ready-test.false in
    completes-all c.args.self.now.list.items c.args.looped.now.names c.loop-ready.ready-index c.loop-ready.looped.names
    (omega (arith, past)) c.loop-ready.invariant.tells
