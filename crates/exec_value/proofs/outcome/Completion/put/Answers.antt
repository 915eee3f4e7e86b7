use Rattle.std.proofs.Common.{rules}
use Rattle.exec_value.proofs.outcome.Completion.put.Goals as goal

pub returns : goal.returns
returns c = search rules
