-- Which runs come to their end, and which of them with values alone.
use Rattle.std.specs.Prelude.{◌≡◌, ◌⊎◌, ℕ, ◌+◌, ◌-◌, ◌<◌, true, false, List, [], ◌∷◌, length, slice_get, Some}
use Rattle.exec_value.specs.declared.data.Datum.{Datum}
use Rattle.exec_value.specs.declared.outcome.Outcome.{Outcome}
use Rattle.exec_value.specs.declared.outcome.Outcome.TheVariants.{Done}
use Rattle.outcome_lines.specs.Summary.{is_value}
use Rattle.plan_rules.specs.Calm.{Calm}
use Rattle.plan_rules.specs.declared.stop.StopState.TheVariants.{Never}
use Rattle.plan_settle.specs.Root.{settled_root}
use Rattle.plan_shape.specs.Blueprint.{Blueprint}
use Rattle.line_rules.specs.Lawful.{Terms, Lawful, datum_of}
use Rattle.line_rules.specs.StopStates.{stop_state}
use Rattle.exec_status.specs.declared.status.Status.{Status}
use Rattle.exec_status.specs.declared.status.Status.TheVariants.{AllValues, NotAllValues, NoMemory}
use Rattle.exec_engine.specs.declared.task.Task.{Task}
use Rattle.exec_engine.specs.Says.{terms_for}

-- The run came to the end of its records, or there was no memory.
abbrev pub IsFinished : Status → Type 0
IsFinished status = (status ≡ AllValues) ⊎ (status ≡ NotAllValues) ⊎ (status ≡ NoMemory)

-- No request to stop reaches one of these records, whatever lawful outcomes they have.
abbrev pub AreNeverStopped : Terms → List (List ℕ) → Type 0
AreNeverStopped terms records =
    (outcomes : List Outcome) (i : ℕ) → Lawful terms records outcomes → i < length records
    → stop_state terms.rules terms.window outcomes (i + 1) ≡ Never

-- The line is a record, plain evaluation of it meets no `when_all` of which a child fails, and
-- gives a value.
pub record SettlesToValue (plan : Blueprint) (number : ℕ) (line : List ℕ) : Type 0 where
  pub datum : Datum
  pub shows : datum_of plan.settings.input line ≡ Some datum
  pub calm : Calm plan.nodes (length plan.nodes - 1) (datum ∷ []) number
  pub value : is_value (Done (settled_root plan datum number false)) ≡ true

-- Each of these records settles to a value, and no request to stop reaches it.
pub record SettleToValues (task : Task) (plan : Blueprint) (records : List (List ℕ)) : Type 0 where
  pub each : (i : ℕ) (line : List ℕ) → slice_get records i ≡ Some line
      → SettlesToValue plan (i + 1) line
  pub never : AreNeverStopped (terms_for task plan) records
