use Rattle.std.proofs.Common.{rules}
use Rattle.spawn_future.proofs.law.limits_of_futures.Goals as goal

pub returns : goal.returns
returns c = search rules
