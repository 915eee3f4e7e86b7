use Rattle.std.proofs.Common.{rules}
use Rattle.exec_value.proofs.record.read_record.Goals as goal

pub returns-in-Some-clause-bad : goal.returns-in-Some-clause-bad
returns-in-Some-clause-bad c = search rules
