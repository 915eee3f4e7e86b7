-- How what was collected in a run stands to its lines.
use Rattle.std.specs.Prelude.{◌≡◌, ◌⊎◌, ◌≤◌, ◌+◌, ◌==◌, ℕ, List, [], ◌∷◌, filter, Option, Some, None, slice_get}
use Rattle.atomic_table.specs.Seated.{TableId}
use Rattle.exec_value.specs.declared.outcome.Completion.TheVariants.{NoMemory}
use Rattle.exec_value.specs.declared.outcome.Outcome.{Outcome}
use Rattle.exec_value.specs.declared.outcome.Outcome.TheVariants.{Done, BadRecord}
use Rattle.line_summary.specs.declared.summary.Summary.{Summary as SummaryCounts}
use Rattle.plan_shape.specs.Blueprint.{Blueprint}
use Rattle.run_tally.specs.Gathered.{Gathered, gathered, values_in, errors_in, stopped_in, no_memory_in}

-- As many operations were collected with a value, with an error and stopped as there are such
-- lines. Lines that are out-of-memory may be more than the operations that were: a record may meet
-- want of memory before its operation is begun.
pub record TalliesWith (all : List Gathered) (summary : SummaryCounts) : Type 0 where
  pub values : values_in all ≡ summary.values
  pub errors : errors_in all ≡ summary.errors
  pub stopped : stopped_in all ≡ summary.stopped
  pub no_memory : no_memory_in all ≤ summary.no_memory

-- What was collected for the record of this number.
abbrev pub of_record : ℕ → List Gathered → List Gathered
of_record number all = filter (λ (g : Gathered). g.number == number) all

-- This was collected for a record with this outcome: one operation of the plan, on the table, whose
-- completion is the outcome; or none, where the outcome is want of memory, which it met before its
-- operation was begun. For a bad record, and where there is no record, nothing was.
abbrev pub IsToldAs : Blueprint → TableId → ℕ → Option Outcome → List Gathered → Type 0
IsToldAs plan table number (Some (Done completion)) found =
    (found ≡ gathered plan table number completion ∷ []) ⊎ ((completion ≡ NoMemory) × (found ≡ []))
IsToldAs plan table number (Some BadRecord) found = found ≡ []
IsToldAs plan table number None found = found ≡ []

-- So it is for each record, the first of which has number 1, and nothing else was collected.
pub record IsToldBy (plan : Blueprint) (table : TableId) (outcomes : List Outcome)
    (all : List Gathered) : Type 0 where
  pub each : (i : ℕ)
      → IsToldAs plan table (i + 1) (slice_get outcomes i) (of_record (i + 1) all)
  pub none : of_record 0 all ≡ []
