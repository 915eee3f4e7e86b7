use Rattle.std.proofs.Common.{rules}
use Rattle.exec_io.proofs.calls.Calls.fail.Goals as goal

pub returns-clause-rose : goal.returns-clause-rose
returns-clause-rose c = search rules

pub returns-clause-after : goal.returns-clause-after
returns-clause-after c = search rules
