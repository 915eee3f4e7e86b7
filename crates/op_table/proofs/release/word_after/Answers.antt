use Rattle.std.proofs.Common.{rules}
use Rattle.op_table.proofs.release.word_after.Goals as goal

pub returns-else-generation-eq4294967295 : goal.returns-else-generation-eq4294967295
returns-else-generation-eq4294967295 c = search rules
