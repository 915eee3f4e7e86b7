use Rattle.std.proofs.Common.{rules}
use Rattle.stop_calls.proofs.removing.try_withdraw.Goals as goal

pub returns-in-Running-clause-tried : goal.returns-in-Running-clause-tried
returns-in-Running-clause-tried g c = search rules

pub returns-in-Ran-clause-tried : goal.returns-in-Ran-clause-tried
returns-in-Ran-clause-tried g c = search rules
