use Rattle.std.proofs.Common.{rules}
use Rattle.exec_io.proofs.mem_sink.MemSinkSink.finish.Goals as goal

pub returns-clause-handed_on : goal.returns-clause-handed_on
returns-clause-handed_on c = search rules

pub returns-clause-after_ok : goal.returns-clause-after_ok
returns-clause-after_ok c = search rules
