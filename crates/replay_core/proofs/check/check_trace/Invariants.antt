use Rattle.std.proofs.Common.{◌≡◌}
use Rattle.exec_life.specs.StateLists.{machine}
use Rattle.replay_core.specs.Traces.{state_at, AreTaken}
use Rattle.replay_core.proofs.check.check_trace.Given as goal

abbrev pub invariant-loop-entry : goal.invariant-loop-entry
invariant-loop-entry l = record {
  count : l.number ≡ l.entry-index;
  state : machine l.state ≡ state_at l.trace l.entry-index;
  taken : AreTaken l.trace l.entry-index;
}
