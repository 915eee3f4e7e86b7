use Rattle.std.proofs.Common.{◌+◌}
use Rattle.std.specs.Arc.{arc_value}
use Rattle.deck_relay.proofs.Opens.{Opening}
use Rattle.deck_relay.proofs.relay.bare_decks.Given as goal

abbrev pub invariant-loop-place : goal.invariant-loop-place
invariant-loop-place l =
    Opening (l.workers + 1) l._place (arc_value l.queue) l.rest l.decks.items l.sleepers.items
