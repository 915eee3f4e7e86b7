use Rattle.deck_relay.specs.SameDecks.{keeps-on}
use Rattle.run_loop.specs.Loops.{deck_of}
use Rattle.record_operations.proofs.Learned.{named-ready, learned-counts, learned-aside, learned-met}
use Rattle.record_operations.proofs.rounds.go_once.Goals as goal

pub take_all-requires-clause-ready : goal.take_all-requires-clause-ready
take_all-requires-clause-ready g c κs within =
    named-ready c.args.table.now c.args.looped.now c.drain.new.looped c.drain.ensures.learns.rest c.requires.ready

pub returns-clause-counts : goal.returns-clause-counts
returns-clause-counts g c =
    learned-counts c.args.looped.now c.drain.new.looped c.take_all.new.looped c.drain.ensures.learns c.take_all.ensures.counts

pub returns-clause-aside : goal.returns-clause-aside
returns-clause-aside g c =
    learned-aside c.args.looped.now c.drain.new.looped c.take_all.new.looped c.drain.ensures.learns c.take_all.ensures.aside

pub returns-clause-met : goal.returns-clause-met
returns-clause-met g c =
    learned-met c.args.looped.now c.drain.new.looped c.take_all.new.looped c.drain.ensures.learns g.T.Stepper.does
    c.args.table.now c.take_all.ensures.met

pub returns-clause-both : goal.returns-clause-both
returns-clause-both g c =
    record {
      same_deck = keeps-on (deck_of c.args.looped.now) (deck_of c.drain.new.looped) (deck_of c.take_all.new.looped) c.drain.ensures.learns.deck
          c.take_all.ensures.deck;
      same_post = c.drain.ensures.post;
    }

pub returns-clause-served : goal.returns-clause-served
returns-clause-served g c =
    record { between = c.drain.new.looped; learns = c.drain.ensures.learns; takes = c.take_all.ensures.served }
