use Rattle.std.proofs.Common.{rules}
use Rattle.op_table.proofs.sight.says_requested.Goals as goal

pub returns-then-stamp-name : goal.returns-then-stamp-name
returns-then-stamp-name c = search rules
