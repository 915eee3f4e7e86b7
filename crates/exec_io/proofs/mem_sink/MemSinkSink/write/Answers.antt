use Rattle.std.proofs.Common.{rules}
use Rattle.exec_io.proofs.mem_sink.MemSinkSink.write.Goals as goal

pub returns-clause-ok : goal.returns-clause-ok
returns-clause-ok c = search rules

pub returns-clause-after_ok : goal.returns-clause-after_ok
returns-clause-after_ok c = search rules
