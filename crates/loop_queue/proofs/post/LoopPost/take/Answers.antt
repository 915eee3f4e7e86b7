use Rattle.std.proofs.Common.{rules}
use Rattle.loop_queue.proofs.Moves.{takes, stands}
use Rattle.loop_queue.proofs.post.LoopPost.take.Goals as goal

pub pop_as-requires-clause-rule : goal.pop_as-requires-clause-rule
pop_as-requires-clause-rule g c = (takes _ _ c.args.self.now.numbered.some, stands _ _)

pub returns-in-Some-clause-taken : goal.returns-in-Some-clause-taken
returns-in-Some-clause-taken g c = search rules

pub returns-in-Some-clause-none : goal.returns-in-Some-clause-none
returns-in-Some-clause-none g c = search rules
