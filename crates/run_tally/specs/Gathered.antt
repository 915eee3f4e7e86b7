-- What was collected of operations, the last first.
use Rattle.std.specs.Prelude.{◌≡◌, ◌-◌, ◌^◌, ℕ, min, Bool, true, false, List, count_by}
use Rattle.exec_value.specs.declared.outcome.Completion.{Completion}
use Rattle.exec_value.specs.declared.outcome.Completion.TheVariants.{Value, Error, Stopped, NoMemory}
use Rattle.atomic_table.specs.Seated.{TableId}
use Rattle.plan_shape.specs.Blueprint.{Blueprint}

-- An operation that was collected: its plan, the table on which it ran, the number of its record,
-- and how it completed.
pub record Gathered : Type 0 where
  pub plan : Blueprint
  pub table : TableId
  pub number : ℕ
  pub completion : Completion

abbrev pub gathered : Blueprint → TableId → ℕ → Completion → Gathered
gathered plan table number completion =
    record { plan = plan; table = table; number = number; completion = completion }

-- Whether a completion is a value, an error, a stop, or want of memory.
abbrev pub ends_in_value : Completion → Bool
ends_in_value (Value values) = true
ends_in_value _ = false

abbrev pub ends_in_error : Completion → Bool
ends_in_error (Error name) = true
ends_in_error _ = false

abbrev pub ends_stopped : Completion → Bool
ends_stopped Stopped = true
ends_stopped _ = false

abbrev pub wants_memory : Completion → Bool
wants_memory NoMemory = true
wants_memory _ = false

-- How many of those that were collected completed so.
abbrev pub ended : (Completion → Bool) → List Gathered → ℕ
ended is all = count_by (λ (g : Gathered). is g.completion) all

abbrev pub values_in : List Gathered → ℕ
values_in = ended ends_in_value

abbrev pub errors_in : List Gathered → ℕ
errors_in = ended ends_in_error

abbrev pub stopped_in : List Gathered → ℕ
stopped_in = ended ends_stopped

abbrev pub no_memory_in : List Gathered → ℕ
no_memory_in = ended wants_memory

-- A number of 64 bits that stands at the most where there are more.
abbrev pub capped : ℕ → ℕ
capped n = min n (2 ^ 64 - 1)

-- These are the numbers of a list.
pub record AreCounted (values errors stopped no_memory : ℕ) (all : List Gathered) : Type 0 where
  pub values_are : values ≡ capped (values_in all)
  pub errors_are : errors ≡ capped (errors_in all)
  pub stopped_are : stopped ≡ capped (stopped_in all)
  pub no_memory_are : no_memory ≡ capped (no_memory_in all)
