use Rattle.std.proofs.Common.{rules}
use Rattle.steal_pool.proofs.worker.Worker.into_parts.Goals as goal

pub returns-clause-desk : goal.returns-clause-desk
returns-clause-desk g c = search rules
