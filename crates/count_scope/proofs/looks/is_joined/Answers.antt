use Rattle.std.proofs.Common.{rules}
use Rattle.count_scope.proofs.looks.is_joined.Goals as goal

pub returns-clause-read : goal.returns-clause-read
returns-clause-read g c = search rules
