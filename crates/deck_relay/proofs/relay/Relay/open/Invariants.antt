use Rattle.std.proofs.Common.{◌≡◌, ◌+◌, length}
use Rattle.deck_relay.specs.Columns.{AreStanding, KeepAll}
use Rattle.deck_relay.proofs.relay.Relay.open.Given as goal

abbrev pub invariant-loop-column : goal.invariant-loop-column
invariant-loop-column l =
    record {
      long : length l.decks.items ≡ l.workers + 1;
      stand : AreStanding (l.workers + 1) l.column 0 l.decks.items;
      keep : KeepAll l.initial.decks.items l.decks.items;
    }
