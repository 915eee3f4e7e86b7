use Rattle.std.proofs.Common.{arith, sym, subst}
use Rattle.op_slot.proofs.Staying.{stays-here, stays-on}
use Rattle.exec_recv.proofs.Asiding.{aside-here, aside-on}
use Rattle.deck_relay.specs.SameDecks.{keeps-here, keeps-on}
use Rattle.run_loop.specs.Delayed.{MayTakeDelay, MayTakeOf, TakesOut}
use Rattle.run_loop.specs.Serves.{moment}
use Rattle.run_loop.proofs.Due.{delay-of, takes-none, takes-more}
use Rattle.run_loop.proofs.Served.{looked-here, more-none, more-on, more-by}
use Rattle.timer_wheel.specs.Delays.{NoneIsDue}
use Rattle.run_loop.proofs.delaying.take_due.Goals as goal

pub out-init : goal.out-init
out-init g c =
    record {
      stays = stays-here c.args.site.now c.args.hand.now c.requires.hand;
      rests = c.requires.rests;
      aside = aside-here c.args.hand.now.me;
      served = more-none g.T.Stepper.does c.args.site.now (MayTakeOf c.args.site.now c.args.delays.now) c.args.taken
          (moment c.args.hand.now c.args.names.now) (moment c.args.hand.now c.args.names.now) (omega arith)
          (looked-here (moment c.args.hand.now c.args.names.now));
      more = omega arith;
      takes = takes-none c.args.site.now c.args.taken c.args.hand.now.me c.args.delays.now;
      deck = keeps-here c.args.names.now.deck;
    }

pub out-preserved : goal.out-preserved
out-preserved g c =
    let does = g.T.Stepper.does in
    let board = c.args.site.now in
    let before = c.out.invariant in
    let old = c.args.hand.now in
    let between = c.out.hand in
    let new = c.try_due-taken.new.hand in
    let more = c.try_due-taken.ensures.more in
    let earlier = before.more in
    let here = moment between c.out.names in
    let next = moment new c.try_due-taken.new.names in
    record {
      stays = stays-on board old between new before.stays c.try_due-taken.ensures.stays;
      rests = c.try_due-taken.ensures.rests;
      aside = aside-on old.me between.me new.me before.aside c.try_due-taken.ensures.aside;
      served = more-on does board (MayTakeOf board c.args.delays.now) c.args.taken c.out.taken c.try_due-taken.result
          (moment old c.args.names.now) here next before.served
          (more-by does board (MayTakeDelay board c.in-Some.out.place c.in-Some.out.generation) (MayTakeOf board c.args.delays.now)
          (delay-of board c.out.taken old.me between.me c.args.delays.now c.out.delays c.in-Some.out.place c.in-Some.out.generation before.takes
          c.in-Some.ensures.some)
          c.out.taken c.try_due-taken.result here next c.try_due-taken.ensures.served);
      more = omega (arith, more, earlier);
      takes = takes-more board c.out.taken c.try_due-taken.result old.me between.me new.me c.args.delays.now c.out.delays c.due.new.self
          c.in-Some.out.place c.in-Some.out.generation more before.takes c.in-Some.ensures.some c.in-Some.ensures.taken
          c.try_due-taken.ensures.tried before.aside c.try_due-taken.ensures.aside;
      deck = keeps-on c.args.names.now.deck c.out.names.deck c.try_due-taken.new.names.deck before.deck c.try_due-taken.ensures.deck;
    }

pub returns-clause-due : goal.returns-clause-due
returns-clause-due g c =
    let same = sym c.in_default.ensures.same in
    let old = c.args.hand.now.me in
    let takes = TakesOut c.args.site.now c.out.taken old c.out.hand.me c.args.delays.now in
    record {
      takes = subst takes same c.out.invariant.takes;
      none = subst NoneIsDue same c.in_default.ensures.none;
    }
