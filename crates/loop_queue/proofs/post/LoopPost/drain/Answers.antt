use Rattle.std.proofs.Common.{◌∙◌, arith}
use Rattle.loop_queue.proofs.post.LoopPost.drain.Goals as goal

pub returns-in_default-clause-drained : goal.returns-in_default-clause-drained
returns-in_default-clause-drained g c =
    let moves = c.loop-moved.invariant.moves in
    record {
      few = omega arith;
      last = c.loop-moved.self;
      moves = record {
        entries = moves.entries;
        count = moves.count;
        is = c.reserve.ensures.items ∙ moves.is;
        drained = moves.drained;
        posted = moves.posted;
      };
      none = c.in_default.ensures.none;
    }
