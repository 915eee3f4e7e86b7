use Rattle.step_parts.specs.Kids.{KnowsAllIdle}
use Rattle.step_parts.specs.Takes.{Keeps}
use Rattle.exec_bulk.proofs.reading.read_all_idle.Given as goal

abbrev pub invariant-loop-child : goal.invariant-loop-child
invariant-loop-child g l = record {
  keeps : Keeps l.site l.taken l.fn.hand l.hand;
  idle : KnowsAllIdle l.taken.name l.children l.child-index l.hand.me;
}
