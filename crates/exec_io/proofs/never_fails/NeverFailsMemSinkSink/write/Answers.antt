use Rattle.std.proofs.Common.{rules}
use Rattle.exec_io.proofs.never_fails.NeverFailsMemSinkSink.write.Goals as goal

pub returns-in-Err-clause-ok : goal.returns-in-Err-clause-ok
returns-in-Err-clause-ok c = search rules

pub returns-in-Err-clause-held : goal.returns-in-Err-clause-held
returns-in-Err-clause-held c = search rules

pub returns-in-Err-clause-telling : goal.returns-in-Err-clause-telling
returns-in-Err-clause-telling c = search rules
