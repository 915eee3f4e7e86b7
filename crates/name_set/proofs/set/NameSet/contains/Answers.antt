use Rattle.std.proofs.lemmas.Grind.{common_steps}
use Rattle.std.proofs.Common.{arith}
use Rattle.name_set.proofs.set.NameSet.contains.Goals as goal

pub returns-then-is_marked : goal.returns-then-is_marked
returns-then-is_marked c = grind (arith, common_steps)
