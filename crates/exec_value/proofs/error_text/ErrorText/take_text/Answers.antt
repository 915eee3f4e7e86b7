use Rattle.std.proofs.Common.{rules}
use Rattle.exec_value.proofs.error_text.ErrorText.take_text.Goals as goal

pub returns-clause-taken : goal.returns-clause-taken
returns-clause-taken c = search rules
