use Rattle.std.proofs.Common.{rules}
use Rattle.exec_value.proofs.data.Data.set_int.Goals as goal

pub returns : goal.returns
returns c = search rules
