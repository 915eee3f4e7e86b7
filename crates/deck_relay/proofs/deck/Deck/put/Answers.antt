use Rattle.std.proofs.Common.{inl, refl, rules}
use Rattle.deck_relay.proofs.Balances.{gives}
use Rattle.deck_relay.proofs.deck.Deck.put.Goals as goal

pub push_as-requires-clause-pushes : goal.push_as-requires-clause-pushes
push_as-requires-clause-pushes g c = gives _ _ _ c.args.self.now.part

pub returns-in-Ok-clause-pushed : goal.returns-in-Ok-clause-pushed
returns-in-Ok-clause-pushed g c = inl (record { own = c.in-Ok.ensures.rule.0; queue = refl; thefts = refl })

pub returns-in-Err-clause-back : goal.returns-in-Err-clause-back
returns-in-Err-clause-back g c = search rules

pub returns-in-Err-clause-pushed : goal.returns-in-Err-clause-pushed
returns-in-Err-clause-pushed g c = search rules
