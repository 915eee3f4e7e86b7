use Rattle.std.proofs.Common.{◌≡◌, ◌≤◌, ◌<◌, ◌-◌, ℕ}
use Rattle.exec_life.specs.StateLists.{machine}
use Rattle.replay_core.specs.Traces.{state_at}
use Rattle.step_reasons.specs.So.{IsSo}
use Rattle.trace_reasons.proofs.since.since.Given as goal

abbrev pub invariant-loop-index : goal.invariant-loop-index
invariant-loop-index l = record {
  state : machine l.state ≡ state_at l.trace l.index;
  within : l.since ≤ l.index;
  holds : (i : ℕ) → l.since ≤ i → i < l.index → IsSo (state_at l.trace i) l.fact;
  before : 1 ≤ l.since → ¬ IsSo (state_at l.trace (l.since - 1)) l.fact;
}
