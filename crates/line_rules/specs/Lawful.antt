-- Which lines are lawful for the records of an input.
use Rattle.std.specs.Prelude.{◌≡◌, ◌⊎◌, ℕ, ◌+◌, List, length, slice_get, Option, Some, None, option_and_then}
use Rattle.exec_value.specs.declared.kinds.Kind.{Kind}
use Rattle.exec_value.specs.declared.data.Datum.{Datum}
use Rattle.exec_value.specs.declared.outcome.Completion.{Completion}
use Rattle.exec_value.specs.declared.outcome.Completion.TheVariants.{NoMemory}
use Rattle.exec_value.specs.declared.outcome.Outcome.{Outcome}
use Rattle.exec_value.specs.declared.outcome.Outcome.TheVariants.{Done, BadRecord}
use Rattle.exec_value.specs.Record.{record_of}
use Rattle.plan_rules.specs.declared.stop.StopState.{StopState}
use Rattle.record_lines.specs.Lines.{text_of}
use Rattle.line_rules.specs.StopStates.{StopRules, stop_state}

-- What a plan asks of the lines: the kind of its records; the completions that it allows a record
-- of this number and datum in this stop state; whether want of memory may be answered; how many
-- records are worked on at once; and when a stop is requested.
pub record Terms : Type 1 where
  pub input : Kind
  pub allows : ℕ → Datum → StopState → Completion → Type 0
  pub wants : Type 0
  pub window : ℕ
  pub rules : StopRules

-- The datum that a line shows. A line that is too long shows none.
abbrev pub datum_of : Kind → List ℕ → Option Datum
datum_of kind line = option_and_then (record_of kind) (text_of line)

-- A record ends with want of memory, where that may be answered.
abbrev pub EndsWanting : Terms → Completion → Type 0
EndsWanting terms completion = (completion ≡ NoMemory) × terms.wants

-- A record ends with a completion that the plan allows its datum in a stop state.
pub record EndsAllowed (terms : Terms) (number : ℕ) (stop : StopState) (line : List ℕ)
    (completion : Completion) : Type 0 where
  pub datum : Datum
  pub shows : datum_of terms.input line ≡ Some datum
  pub allowed : terms.allows number datum stop completion

-- A record may end with want of memory, or with a completion that the plan allows its datum; and a
-- line that is no record is a bad one.
abbrev pub MayEnd : Terms → ℕ → StopState → List ℕ → Outcome → Type 0
MayEnd terms number stop line BadRecord = datum_of terms.input line ≡ None
MayEnd terms number stop line (Done completion) =
    EndsWanting terms completion ⊎ EndsAllowed terms number stop line completion

-- Each record has one outcome, in order, which is one that it may end with. Records are numbered
-- from 1.
pub record Lawful (terms : Terms) (records : List (List ℕ)) (outcomes : List Outcome) : Type 0 where
  pub as_many : length outcomes ≡ length records
  pub each : (i : ℕ) (line : List ℕ) (outcome : Outcome)
      → slice_get records i ≡ Some line → slice_get outcomes i ≡ Some outcome
      → MayEnd terms (i + 1) (stop_state terms.rules terms.window outcomes (i + 1)) line outcome
