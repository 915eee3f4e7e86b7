use Rattle.loop_queue.specs.Posts.{IsSamePost}
use Rattle.loop_queue.specs.Moves.{Moves}
use Rattle.loop_queue.proofs.post.LoopPost.drain.Given as goal

abbrev pub invariant-loop-moved : goal.invariant-loop-moved
invariant-loop-moved g l =
    record {
      same : IsSamePost l.fn.self l.self;
      moves : Moves l.moved l.fn.names.items l.names.items l.fn.self l.self;
    }
