-- What a job answers: data, or the name of an error.
use Rattle.std.specs.Prelude.{◌≡◌, ℕ, ◌≤◌, ℤ, List, [], ◌∷◌, length, nat_le, codes, Option, Some, None, Result, Ok, Err, IsOk, IfOk, if◌then◌else◌}
use Rattle.std.specs.declared.alloc.AllocError.{AllocError}
use Rattle.exec_value.specs.Place.{AreInPlace}
use Rattle.exec_value.specs.declared.limits.TheConstants.{INLINE_BYTES, TEXT_BYTES}
use Rattle.exec_value.specs.declared.data.Datum.{Datum}
use Rattle.exec_value.specs.declared.data.Datum.TheVariants.{Int, Text}
use Rattle.exec_value.specs.declared.outcome.Completion.{Completion}
use Rattle.exec_value.specs.declared.outcome.Completion.TheVariants.{Value, Error}
use Rattle.exec_job.specs.Fault.{name_of}
use Rattle.exec_job.specs.declared.fault.JobFault.{JobFault}

abbrev pub Answer : Type 0
Answer = Result (List Datum) (List ℕ)

-- a number, or the error of an operation on numbers
abbrev pub int_answer : Result ℤ JobFault → Answer
int_answer (Ok n) = Ok (Int n ∷ [])
int_answer (Err fault) = Err (name_of fault)

-- a number, where a text shows one
abbrev pub parsed : Option ℤ → Answer
parsed (Some n) = Ok (Int n ∷ [])
parsed None = Err (codes "not-a-number")

-- a text, where it isn't too long
abbrev pub text_answer : List ℕ → Answer
text_answer bytes = if nat_le (length bytes) TEXT_BYTES then Ok (Text bytes ∷ [])
    else Err (codes "too-long")

-- how an operation ends that applies a job
abbrev pub ending : Answer → Completion
ending (Ok values) = Value values
ending (Err name) = Error name

-- the answer stands in place, so that making it wants no memory
abbrev pub EndsInPlace : Answer → Type 0
EndsInPlace (Ok values) = AreInPlace values
EndsInPlace (Err name) = length name ≤ INLINE_BYTES

-- a call ends with this answer, and finds no memory only where that doesn't stand in place
pub record Gives (answer : Answer) (result : Result Completion AllocError) : Type 0 where
  pub exact : IfOk result (λ completion. completion ≡ ending answer)
  pub in_place : EndsInPlace answer → IsOk result
