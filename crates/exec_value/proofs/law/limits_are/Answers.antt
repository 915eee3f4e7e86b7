use Rattle.std.proofs.Common.{rules}
use Rattle.exec_value.proofs.law.limits_are.Goals as goal

pub returns-clause-line_bytes : goal.returns-clause-line_bytes
returns-clause-line_bytes c = search rules
