use Rattle.deck_relay.specs.SameDecks.{keeps-here}
use Rattle.run_loop.specs.Loops.{told, deck_of}
use Rattle.run_loop.proofs.Decked.{drains-longer}
use Rattle.run_loop.proofs.looped.Loop.drain.Goals as goal

pub returns-clause-more : goal.returns-clause-more
returns-clause-more g c =
    drains-longer c.drain.result (told c.args.self.now) c.drain.new.names c.args.post.now c.drain.new.self c.drain.ensures.drained

pub returns-clause-deck : goal.returns-clause-deck
returns-clause-deck g c = keeps-here (deck_of c.args.self.now)
