use Rattle.std.proofs.Common.{suc, refl, ap, ◌∙◌}
use Rattle.exec_recv.proofs.Asiding.{aside-here, aside-on}
use Rattle.deck_relay.specs.SameDecks.{keeps-here, keeps-on}
use Rattle.run_loop.specs.declared.looped.Loop.{Loop as Looped}
use Rattle.run_loop.specs.Loops.{deck_of}
use Rattle.node_walks.proofs.Read.{looked-aside}
use Rattle.run_loop.proofs.OneRun.{listed-still, collected-later}
use Rattle.run_loop.proofs.looped.Loop.turn_until.Goals as goal

pub loop-init : goal.loop-init
loop-init g c =
    record {
      next = tt;
      finite = tt;
      ready = c.requires.ready;
      same = (refl, refl);
      aside = aside-here c.args.self.now.hand.me;
      counts = record { helps = refl; tally = refl };
      deck = keeps-here (deck_of c.args.self.now);
      turns = (0, refl);
    }

pub collect-requires-clause-listed : goal.collect-requires-clause-listed
collect-requires-clause-listed g c =
    rw (← c.site.view_is)
    at (listed-still c.args.site.now c.args.block c.args.self.now.hand.me c.loop.self.hand.me c.loop.invariant.aside c.requires.listed)

pub loop-preserved : goal.loop-preserved
loop-preserved g c =
    let before = c.loop.invariant in
    let none = c.in_default.ensures.none in
    let collect = c.collect.ensures.same in
    let turn = c.turn-taken.ensures in
    let old = c.args.self.now.hand.me in
    let between = c.loop.self.hand.me in
    let after = c.collect.new.self.hand.me in
    record {
      next = tt;
      finite = tt;
      ready = turn.ready;
      same = (turn.same.0 ∙ collect.0 ∙ before.same.0, turn.same.1 ∙ collect.1 ∙ before.same.1);
      aside = aside-on old after c.turn-taken.new.self.hand.me
          (aside-on old between after before.aside (looked-aside _ none.read.word between after none.read.is)) turn.aside;
      counts = record {
        helps = turn.counts.helps ∙ ap (λ (z : Looped). z.helps) none.rest ∙ before.counts.helps;
        tally = turn.counts.tally ∙ ap (λ (z : Looped). z.tally) none.rest ∙ before.counts.tally;
      };
      deck = keeps-on (deck_of c.args.self.now) (deck_of c.loop.self) (deck_of c.turn-taken.new.self) before.deck
          (keeps-on (deck_of c.loop.self) (deck_of c.collect.new.self) (deck_of c.turn-taken.new.self) c.collect.ensures.deck turn.deck);
      turns = (
        suc before.turns.0,
        record {
          between = c.loop.self;
          before = before.turns.1;
          looked = c.collect.new.self;
          none = rw c.site.view_is at none;
          turns = record { count = c.turn-taken.result; served = turn.served; met = turn.met; turn = turn.turn; none = turn.none };
        },
      );
    }

pub returns-in-Some-collect-clause-until : goal.returns-in-Some-collect-clause-until
returns-in-Some-collect-clause-until g c =
    record {
      count = c.loop.invariant.turns.0;
      last = c.loop.self;
      turns = c.loop.invariant.turns.1;
      collects = rw c.site.view_is at c.in-Some-collect.ensures.collected;
    }

pub returns-in-Some-collect-clause-collected : goal.returns-in-Some-collect-clause-collected
returns-in-Some-collect-clause-collected g c =
    collected-later c.args.site.now c.args.block c.args.self.now c.loop.self c.collect.new.self c.in-Some-collect.collected
    c.loop.invariant.aside c.loop.invariant.counts (rw c.site.view_is at c.in-Some-collect.ensures.collected)

pub returns-in-Some-collect-clause-deck : goal.returns-in-Some-collect-clause-deck
returns-in-Some-collect-clause-deck g c =
    keeps-on (deck_of c.args.self.now) (deck_of c.loop.self) (deck_of c.collect.new.self) c.loop.invariant.deck c.collect.ensures.deck

pub collect-requires-clause-ready : goal.collect-requires-clause-ready
collect-requires-clause-ready g c = rw (← c.site.view_is) at c.loop.invariant.ready

pub collect-requires-clause-over : goal.collect-requires-clause-over
collect-requires-clause-over g c = rw (← c.site.view_is) at c.requires.site.over

pub turn-taken-requires-clause-ready : goal.turn-taken-requires-clause-ready
turn-taken-requires-clause-ready g c κs within = rw c.site.view_is at c.collect.ensures.ready

pub returns-in-Some-collect-clause-ready : goal.returns-in-Some-collect-clause-ready
returns-in-Some-collect-clause-ready g c = rw c.site.view_is at c.collect.ensures.ready

pub returns-in-Some-collect-clause-same : goal.returns-in-Some-collect-clause-same
returns-in-Some-collect-clause-same g c =
    let before = c.loop.invariant.same in
    let collect = c.collect.ensures.same in
    (collect.0 ∙ before.0, collect.1 ∙ before.1)
