use Rattle.std.proofs.Common.{rules}
use Rattle.exec_value.proofs.data.copy_items.Goals as goal

pub returns-clause-ok : goal.returns-clause-ok
returns-clause-ok c = search rules
