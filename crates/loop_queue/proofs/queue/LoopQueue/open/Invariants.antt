use Rattle.std.specs.Arc.{arc_value}
use Rattle.loop_queue.proofs.Opens.{Opening}
use Rattle.loop_queue.proofs.queue.LoopQueue.open.Given as goal

abbrev pub invariant-loop-number : goal.invariant-loop-number
invariant-loop-number l = Opening (arc_value l.queue) l.number l.rest l.all.items
