use Rattle.std.proofs.Common.{◌≡◌}
use Rattle.record_loop.specs.Works.{KeepsWork}
use Rattle.record_loop.proofs.slot.start.Given as goal

abbrev pub invariant-loop : goal.invariant-loop
invariant-loop g l = record {
  next : (goal.iterator-loop g).can_next l.iterator';
  finite : (goal.iterator-loop g).is_finite l.iterator';
  same : l.waiting ≡ l.fn.datum;
  keeps : KeepsWork (g.O.Operations.state l.fn.operations) (g.O.Operations.state l.operations);
}
