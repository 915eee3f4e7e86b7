-- How many lines of each sort there are.
use Rattle.std.specs.Prelude.{◌≡◌, ◌+◌, List, length, count_by, if◌then◌else◌}
use Rattle.std.specs.Prelude.{◌+ℤ◌}
use Rattle.exec_value.specs.Sum.{total}
use Rattle.outcome_lines.specs.Summary.{is_value, is_error, is_stopped, is_out_of_memory, is_bad_record, line_numbers, sum_of}
use Rattle.exec_value.specs.declared.outcome.Outcome.{Outcome}
use Rattle.line_summary.specs.declared.summary.Summary.{Summary}

-- The summary has counted these outcomes.
pub record Summarizes (summary : Summary) (outcomes : List Outcome) : Type 0 where
  pub lines : summary.lines ≡ length outcomes
  pub values : summary.values ≡ count_by is_value outcomes
  pub errors : summary.errors ≡ count_by is_error outcomes
  pub stopped : summary.stopped ≡ count_by is_stopped outcomes
  pub no_memory : summary.no_memory ≡ count_by is_out_of_memory outcomes
  pub bad : summary.bad ≡ count_by is_bad_record outcomes
  pub sum : summary.sum ≡ sum_of outcomes

-- One outcome more is counted.
pub record Counts (old new : Summary) (outcome : Outcome) : Type 0 where
  pub lines : new.lines ≡ old.lines + 1
  pub values : new.values ≡ old.values + (if is_value outcome then 1 else 0)
  pub errors : new.errors ≡ old.errors + (if is_error outcome then 1 else 0)
  pub stopped : new.stopped ≡ old.stopped + (if is_stopped outcome then 1 else 0)
  pub no_memory : new.no_memory ≡ old.no_memory + (if is_out_of_memory outcome then 1 else 0)
  pub bad : new.bad ≡ old.bad + (if is_bad_record outcome then 1 else 0)
  pub sum : new.sum ≡ old.sum +ℤ total (line_numbers outcome)
