use Rattle.std.proofs.Common.{◌≡◌, ◌≤◌, length}
use Rattle.std.specs.Arc.{arc_value}
use Rattle.deck_relay.specs.Columns.{AreStanding, KeepAll}
use Rattle.deck_relay.proofs.Settles.{Settling}
use Rattle.deck_relay.proofs.relay.Relay.close.Given as goal

abbrev pub invariant-columns : goal.invariant-columns
invariant-columns g l =
    record {
      long : length l.decks.items ≡ length l.fn.decks.items;
      most : l.column ≤ length l.fn.decks.items;
      stand : AreStanding (length l.fn.decks.items) l.column 0 l.decks.items;
      keep : KeepAll l.fn.decks.items l.decks.items;
    }

abbrev pub decreases-columns : goal.decreases-columns
decreases-columns g l = l.column

abbrev pub invariant-loop-deck : goal.invariant-loop-deck
invariant-loop-deck g l = Settling l.fn.decks.items l.decks.items (arc_value l.queue) l.whole l.left

abbrev pub decreases-loop-deck : goal.decreases-loop-deck
decreases-loop-deck g l = goal.left-loop-deck g l
