use Rattle.std.proofs.Common.{refl}
use Rattle.deck_relay.specs.Desks.{post-here}
use Rattle.deck_relay.proofs.desk.Desk.push.Goals as goal

pub returns-in-Ok-clause-same : goal.returns-in-Ok-clause-same
returns-in-Ok-clause-same g c = record { same = record { deck = c.push.ensures.same; post = post-here c.args.self.now.post }; undrained = refl }

pub returns-in-Err-clause-same : goal.returns-in-Err-clause-same
returns-in-Err-clause-same g c = record { same = record { deck = c.push.ensures.same; post = post-here c.args.self.now.post }; undrained = refl }
