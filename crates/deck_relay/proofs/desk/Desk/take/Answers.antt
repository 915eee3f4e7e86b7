use Rattle.std.proofs.Common.{refl}
use Rattle.deck_relay.specs.Desks.{post-here}
use Rattle.deck_relay.proofs.desk.Desk.take.Goals as goal

pub returns : goal.returns
returns g c = record { same = record { deck = c.take.ensures.same; post = post-here c.args.self.now.post }; undrained = refl }
