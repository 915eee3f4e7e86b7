use Rattle.spawn_future.specs.Keeping.{IsKeeping}
use Rattle.hand_tests.proofs.tests.acts.end.Given as goal

abbrev pub invariant-loop : goal.invariant-loop
invariant-loop g l = record {
  next : (goal.iterator-loop g).can_next l.iterator';
  finite : (goal.iterator-loop g).is_finite l.iterator';
  keeping : IsKeeping l.site l.left l.hand;
}
