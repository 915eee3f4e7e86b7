use Rattle.std.proofs.Common.{rules}
use Rattle.exec_value.proofs.sum.sum_datum.Goals as goal

pub returns-in-Row-clause-exact : goal.returns-in-Row-clause-exact
returns-in-Row-clause-exact c = search rules
