use Rattle.record_operations.specs.Moves.{Clears}
use Rattle.record_operations.proofs.running.TableRun.clear_spawned.Given as goal

abbrev pub invariant-loop : goal.invariant-loop
invariant-loop g l = record {
  next : (goal.iterator-loop g).can_next l.iterator';
  finite : (goal.iterator-loop g).is_finite l.iterator';
  clears : Clears l.fn.self l.self;
}
