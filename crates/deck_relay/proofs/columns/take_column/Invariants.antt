use Rattle.std.proofs.Common.{◌≡◌, ◌≤◌, length}
use Rattle.deck_relay.specs.Columns.{AreStanding, KeepAll}
use Rattle.deck_relay.proofs.columns.take_column.Given as goal

abbrev pub invariant-back : goal.invariant-back
invariant-back l =
    record {
      long : length l.decks.items ≡ length l.fn.decks.items;
      most : l.ahead ≤ length l.fn.decks.items;
      stand : AreStanding (length l.fn.decks.items) l.column l.ahead l.decks.items;
      keep : KeepAll l.fn.decks.items l.decks.items;
    }

abbrev pub decreases-back : goal.decreases-back
decreases-back l = l.ahead
