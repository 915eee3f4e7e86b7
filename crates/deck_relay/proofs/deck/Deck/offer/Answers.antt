use Rattle.std.proofs.Common.{refl}
use Rattle.deck_relay.proofs.Balances.{offers, stands}
use Rattle.deck_relay.proofs.deck.Deck.offer.Goals as goal

pub push_as-requires-clause-rule : goal.push_as-requires-clause-rule
push_as-requires-clause-rule g c = (offers _ _ _ _ c.args.self.now.queued, stands _ _)

pub returns-in-Ok-clause-offered : goal.returns-in-Ok-clause-offered
returns-in-Ok-clause-offered g c = record { own = refl; queue = c.in-Ok.ensures.rule; thefts = refl }
