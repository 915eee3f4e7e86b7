use Rattle.std.proofs.Common.{rules}
use Rattle.op_table.proofs.request.mask.Goals as goal

pub returns-else-failure : goal.returns-else-failure
returns-else-failure c = search rules
