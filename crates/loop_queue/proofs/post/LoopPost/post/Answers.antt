use Rattle.std.proofs.lemmas.Grind.{common_steps}
use Rattle.std.proofs.Common.{arith, rules}
use Rattle.loop_queue.proofs.Moves.{posts, stands}
use Rattle.loop_queue.proofs.post.LoopPost.post.Goals as goal

pub push_as-requires-clause-rule : goal.push_as-requires-clause-rule
push_as-requires-clause-rule g c =
    let own = c.args.self.now.numbered in
    (posts _ _ _ _ own.some (omega (arith, own.from)) own.upto, stands _ _)

pub returns-in-Err-clause-posted : goal.returns-in-Err-clause-posted
returns-in-Err-clause-posted g c = search rules

pub invariant_of-self : goal.invariant_of-self
invariant_of-self g c = grind (arith, common_steps)
