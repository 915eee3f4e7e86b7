use Rattle.step_parts.specs.Kids.{KeepsIdle}
use Rattle.step_parts.specs.Takes.{Keeps}
use Rattle.exec_bulk.proofs.reading.read_idle.Given as goal

abbrev pub invariant-loop : goal.invariant-loop
invariant-loop g l = record {
  next : (goal.iterator-loop g).can_next l.iterator';
  finite : (goal.iterator-loop g).is_finite l.iterator';
  keeps : Keeps l.site l.taken l.fn.hand l.hand;
  idles : KeepsIdle l.taken.name l.fn.hand.me l.hand.me;
}
