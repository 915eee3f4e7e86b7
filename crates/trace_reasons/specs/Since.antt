-- Since when a fact is so.
use Rattle.std.specs.Prelude.{◌≡◌, ◌-◌, ◌≤◌, ℕ, Some, slice_get}
use Rattle.replay_core.specs.Traces.{state_at}
use Rattle.step_reasons.specs.declared.fact.Fact.{Fact}
use Rattle.step_reasons.specs.Reasons.{reason_of}
use Rattle.step_reasons.specs.So.{IsSo}
use Rattle.trace_text.specs.declared.entry.Entry.{Entry}
use Rattle.trace_text.specs.Values.{TraceValue}

-- It is so in the state after the trace's first j entries and in each up to that after k, and
-- wasn't before: entry j made it so. 0 where it was so from the beginning.
pub record IsSince (t : TraceValue) (fact : Fact) (k j : ℕ) : Type 0 where
  pub within : j ≤ k
  pub holds : (i : ℕ) → j ≤ i → i ≤ k → IsSo (state_at t i) fact
  pub before : 1 ≤ j → ¬ IsSo (state_at t (j - 1)) fact

-- The trace's entry e, from 1, is refused for this reason, which is so since entry j.
pub record IsReason (t : TraceValue) (e : ℕ) (entry : Entry) (fact : Fact) (j : ℕ) : Type 0 where
  pub entry_is : slice_get t.entries (e - 1) ≡ Some entry
  pub reason : reason_of (state_at t (e - 1)) entry.hand entry.event ≡ Some fact
  pub since : IsSince t fact (e - 1) j
