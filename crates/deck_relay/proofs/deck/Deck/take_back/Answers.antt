use Rattle.std.proofs.Common.{ap}
use Rattle.deck_relay.proofs.Balances.{merges}
use Rattle.deck_relay.proofs.deck.Deck.take_back.Goals as goal

pub absorb-requires-clause-table : goal.absorb-requires-clause-table
absorb-requires-clause-table c =
    let seat = c.args.theft.seated in
    (ap (λ deque. deque.0) c.requires, ap (λ deque. deque.1) c.requires, seat.2, seat.3)

pub absorb-requires-clause-rule : goal.absorb-requires-clause-rule
absorb-requires-clause-rule c = merges _ _ _ _
