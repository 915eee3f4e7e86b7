use Rattle.std.proofs.Common.{rules}
use Rattle.op_table.proofs.run.says_armed.Goals as goal

pub returns-in_default : goal.returns-in_default
returns-in_default c = search rules
