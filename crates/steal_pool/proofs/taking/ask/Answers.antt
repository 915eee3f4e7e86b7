use Rattle.std.proofs.Common.{rules}
use Rattle.steal_pool.proofs.taking.ask.Goals as goal

pub returns-clause-fewer : goal.returns-clause-fewer
returns-clause-fewer g c = search rules
