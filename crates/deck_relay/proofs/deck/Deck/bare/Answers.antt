use Rattle.deck_relay.proofs.Balances.{begins}
use Rattle.deck_relay.proofs.deck.Deck.bare.Goals as goal

pub fifo_as-requires : goal.fifo_as-requires
fifo_as-requires c = begins
