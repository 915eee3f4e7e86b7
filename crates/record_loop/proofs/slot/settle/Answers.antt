use Rattle.std.proofs.Common.{rules}
use Rattle.record_loop.proofs.slot.settle.Goals as goal

pub collect-requires-clause-begun : goal.collect-requires-clause-begun
collect-requires-clause-begun g c κs within = search rules

pub returns-in-Running : goal.returns-in-Running
returns-in-Running g c = search rules
