use Rattle.deck_relay.specs.SameDecks.{KeepsDeck}
use Rattle.record_operations.specs.Calls.{LeavesSame}
use Rattle.run_loop.specs.Loops.{IsReady, deck_of}
use Rattle.record_operations.proofs.joining.wait_joined.Given as goal

abbrev pub invariant-loop : goal.invariant-loop
invariant-loop g l = record {
  next : (goal.iterator-loop g).can_next l.iterator';
  finite : (goal.iterator-loop g).is_finite l.iterator';
  ready : IsReady l.table l.looped;
  same : LeavesSame l.fn.looped.hand.me l.looped.hand.me;
  deck : KeepsDeck (deck_of l.fn.looped) (deck_of l.looped);
}
