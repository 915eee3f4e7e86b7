use Rattle.std.proofs.Common.{rules}
use Rattle.exec_value.proofs.txt.Kept.from_slice.Goals as goal

pub returns-in_err-from_slice-clause-small : goal.returns-in_err-from_slice-clause-small
returns-in_err-from_slice-clause-small c = search rules

pub returns-clause-many : goal.returns-clause-many
returns-clause-many c = search rules
