use Rattle.std.proofs.Common.{rules}
use Rattle.steal_pool.proofs.arrangement.Arrangement.give.Goals as goal

pub returns-clause-order : goal.returns-clause-order
returns-clause-order g c = search rules
