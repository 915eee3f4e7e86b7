use Rattle.deck_relay.proofs.Rounds.{Round, Waits}
use Rattle.deck_relay.proofs.stealing.steal_round.Given as goal

abbrev pub invariant-loop-k : goal.invariant-loop-k
invariant-loop-k l = Round l.place l.k l.fn.thefts l.thefts × Waits l.fn.own l.own
