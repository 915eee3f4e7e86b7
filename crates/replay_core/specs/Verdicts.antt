-- What the check of a trace says.
use Rattle.std.specs.Prelude.{◌≡◌, ℕ, ◌-◌, ◌≤◌, false, length}
use Rattle.trace_text.specs.Values.{TraceValue}
use Rattle.replay_core.specs.declared.check.Verdict.{Verdict}
use Rattle.replay_core.specs.declared.check.Verdict.TheVariants.{Taken, Refused}
use Rattle.replay_core.specs.Traces.{is_taken, AreTaken}

-- e is the first entry, from 1, that is no step
pub record IsFirstRefused (t : TraceValue) (e : ℕ) : Type 0 where
  pub from_one : 1 ≤ e
  pub within : e ≤ length t.entries
  pub before : AreTaken t (e - 1)
  pub refused : is_taken t (e - 1) ≡ false

-- each entry is a step, and there are n
pub record AllTaken (t : TraceValue) (n : ℕ) : Type 0 where
  pub count : n ≡ length t.entries
  pub each : AreTaken t n

abbrev pub IsVerdict : TraceValue → Verdict → Type 0
IsVerdict t (Taken n) = AllTaken t n
IsVerdict t (Refused e) = IsFirstRefused t e
