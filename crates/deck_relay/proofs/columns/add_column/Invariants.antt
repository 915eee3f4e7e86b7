use Rattle.std.proofs.Common.{◌≡◌, length}
use Rattle.deck_relay.specs.Columns.{AreStanding, KeepAll}
use Rattle.deck_relay.proofs.columns.add_column.Given as goal

abbrev pub invariant-loop-thief : goal.invariant-loop-thief
invariant-loop-thief l =
    record {
      long : length l.decks.items ≡ length l.fn.decks.items;
      stand : AreStanding (length l.fn.decks.items) l.column l.thief l.decks.items;
      keep : KeepAll l.fn.decks.items l.decks.items;
    }
