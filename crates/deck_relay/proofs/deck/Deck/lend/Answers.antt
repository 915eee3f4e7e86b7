use Rattle.deck_relay.proofs.Balances.{forks}
use Rattle.deck_relay.proofs.deck.Deck.lend.Goals as goal

pub another-pass-requires : goal.another-pass-requires
another-pass-requires c = forks _ _ c.requires
