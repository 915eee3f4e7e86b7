-- A job applied to each element of a row, at its index ([exec.bulk]).
use Rattle.std.specs.Prelude.{ℕ, ◌+◌, ℤ, pos, List, [], ◌∷◌, ◌++◌, Option, Some, None, Result, Ok, Err, codes, slice_get}
use Rattle.std.specs.Fmt.{decimal}
use Rattle.exec_value.specs.declared.data.Datum.{Datum}
use Rattle.exec_value.specs.declared.data.Datum.TheVariants.{Int, Row}
use Rattle.exec_value.specs.declared.outcome.Completion.{Completion}
use Rattle.exec_value.specs.declared.outcome.Completion.TheVariants.{Value, Error, Stopped}
use Rattle.exec_job.specs.declared.job.Job.{Job}
use Rattle.exec_job.specs.Element.{at_index}
use Rattle.exec_job.specs.Fault.{name_of}
use Rattle.exec_job.specs.declared.fault.JobFault.{JobFault}
use Rattle.plan_rules.specs.declared.node.Node.{Node}
use Rattle.plan_rules.specs.declared.node.Node.TheVariants.{Bulk}

-- the error of an element: its name, `@` and the element's index
abbrev pub error_at : List ℕ → ℕ → List ℕ
error_at name index = name ++ codes "@" ++ decimal index

-- an element's result in front of those behind it: the least failing index decides
abbrev pub in_front : ℕ → Result ℤ JobFault → Result (List ℤ) (List ℕ) → Result (List ℤ) (List ℕ)
in_front index (Err fault) behind = Err (error_at (name_of fault) index)
in_front index (Ok y) (Err name) = Err name
in_front index (Ok y) (Ok ys) = Ok (y ∷ ys)

-- the job on each element, the first of which has this index
abbrev pub each_of : Job → ℕ → List ℤ → Result (List ℤ) (List ℕ)
each_of job index [] = Ok []
each_of job index (x ∷ xs) = in_front index (at_index job index x) (each_of job (index + 1) xs)

abbrev pub row_ending : Result (List ℤ) (List ℕ) → Completion
row_ending (Ok ys) = Value (Row ys ∷ [])
row_ending (Err name) = Error name

-- one row becomes its elements' results, and others pass
abbrev pub bulk_of : Job → Completion → Completion
bulk_of job (Value (Row xs ∷ [])) = row_ending (each_of job 0 xs)
bulk_of job c = c

-- the same of a part, whose arguments are a row and the index of its first element in the whole row
abbrev pub part_of : Job → List Datum → Completion
part_of job (Row xs ∷ Int (pos first) ∷ []) = row_ending (each_of job first xs)
part_of job values = Stopped

-- the job of the bulk with this number
abbrev pub job_of_bulk : List Node → ℕ → Option Job
job_of_bulk nodes n = job_of (slice_get nodes n) where
  job_of : Option Node → Option Job
  job_of (Some (Bulk child job)) = Some job
  job_of _ = None

-- what a part ends with, where there is such a bulk
abbrev pub part_ending : Option Job → List Datum → Completion
part_ending None values = Stopped
part_ending (Some job) values = part_of job values
