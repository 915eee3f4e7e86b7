use Rattle.std.proofs.Common.{◌≡◌}
use Rattle.exec_life.specs.StateLists.{machine}
use Rattle.replay_core.specs.Traces.{state_at}
use Rattle.trace_reasons.proofs.walk.state_after.Given as goal

abbrev pub invariant-loop-index : goal.invariant-loop-index
invariant-loop-index l = machine l.state ≡ state_at l.trace l.index
