use Rattle.deck_relay.specs.SameDecks.{keeps-on}
use Rattle.run_loop.specs.Loops.{deck_of}
use Rattle.run_loop.proofs.OneRun.{started-listed, started-run}
use Rattle.run_loop.proofs.looped.Loop.sync_wait.Goals as goal

pub turn_until-requires-clause-listed : goal.turn_until-requires-clause-listed
turn_until-requires-clause-listed g c κs within =
    started-listed c.args.site.now c.in-Ok.block c.args.env c.args.self.now c.start.new.self c.in-Ok.ensures.started c.requires.start

pub returns-in-Ok-clause-waits : goal.returns-in-Ok-clause-waits
returns-in-Ok-clause-waits g c =
    started-run c.args.site.now c.in-Ok.block c.args.env c.args.self.now c.start.new.self c.in-Ok.ensures.started c.turn_until.new.self
    c.turn_until.result c.start.ensures.counts c.turn_until.ensures.collected

pub returns-in-Ok-clause-deck : goal.returns-in-Ok-clause-deck
returns-in-Ok-clause-deck g c =
    keeps-on (deck_of c.args.self.now) (deck_of c.start.new.self) (deck_of c.turn_until.new.self) c.start.ensures.deck c.turn_until.ensures.deck

pub returns-in-Ok-clause-only : goal.returns-in-Ok-clause-only
returns-in-Ok-clause-only g c = record {
  block = c.in-Ok.block;
  begun = c.start.new.self;
  first = c.in-Ok.ensures.first;
  until = c.turn_until.ensures.until;
}
