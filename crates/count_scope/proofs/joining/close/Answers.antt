use Rattle.std.proofs.Common.{rules}
use Rattle.count_scope.proofs.joining.close.Goals as goal

pub returns-clause-closed : goal.returns-clause-closed
returns-clause-closed g c = search rules
