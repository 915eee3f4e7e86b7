use Rattle.std.specs.Arc.{arc_value}
use Rattle.loop_queue.proofs.Closes.{Gathering}
use Rattle.loop_queue.proofs.queue.LoopQueue.close.Given as goal

abbrev pub invariant-loop-post : goal.invariant-loop-post
invariant-loop-post g l = Gathering (arc_value l.queue) l.fn.posts.items l.posts.items l.whole

abbrev pub decreases-loop-post : goal.decreases-loop-post
decreases-loop-post g l = goal.left-loop-post g l
