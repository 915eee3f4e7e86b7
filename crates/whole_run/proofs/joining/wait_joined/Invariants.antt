use Rattle.table_steps.specs.Views.{Stays}
use Rattle.whole_run.specs.Keeps.{KeepsView}
use Rattle.whole_run.proofs.joining.wait_joined.Given as goal

abbrev pub invariant-loop : goal.invariant-loop
invariant-loop g l = record {
  next : (goal.iterator-loop g).can_next l.iterator';
  finite : (goal.iterator-loop g).is_finite l.iterator';
  stays : Stays l.table l.fn.hand l.hand;
  keeps : KeepsView l.fn.hand.me l.hand.me;
}
