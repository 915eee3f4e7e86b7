use Rattle.std.proofs.Common.{rules}
use Rattle.name_set.proofs.set.widened.Goals as goal

pub returns-then-low-high-clause-has : goal.returns-then-low-high-clause-has
returns-then-low-high-clause-has c = search rules
