use Rattle.std.proofs.Common.{rules}
use Rattle.op_table.proofs.rest.rests_in.Goals as goal

pub returns-in-Pool : goal.returns-in-Pool
returns-in-Pool c = search rules
