-- What adaptors make of one completion of their child.
use Rattle.std.specs.Prelude.{ℕ, Bool, true, false, List, [], ◌∷◌, Option, Some, None}
use Rattle.exec_value.specs.declared.kinds.Kind.{Kind}
use Rattle.exec_value.specs.declared.kinds.Kind.TheVariants.{Int as IntKind, Text as TextKind}
use Rattle.exec_value.specs.declared.data.Datum.{Datum}
use Rattle.exec_value.specs.declared.data.Datum.TheVariants.{Int, Text, Row, SomeInt, SomeText, Nothing}
use Rattle.exec_value.specs.declared.outcome.Completion.{Completion}
use Rattle.exec_value.specs.declared.outcome.Completion.TheVariants.{Value, Error, Stopped, NoMemory}
use Rattle.exec_job.specs.declared.job.Job.{Job}
use Rattle.exec_job.specs.Apply.{apply_of, ending}

-- the data of a completion on the value, error or stopped channel; none on the others
abbrev pub value_data : Completion → Option (List Datum)
value_data (Value data_) = Some data_
value_data (Error e) = None
value_data Stopped = None
value_data NoMemory = None

abbrev pub error_data : Completion → Option (List Datum)
error_data (Value data_) = None
error_data (Error e) = Some (Text e ∷ [])
error_data Stopped = None
error_data NoMemory = None

abbrev pub stopped_data : Completion → Option (List Datum)
stopped_data (Value data_) = None
stopped_data (Error e) = None
stopped_data Stopped = Some []
stopped_data NoMemory = None

-- a completion on the channel becomes the job's, and others pass
abbrev pub applied : Job → Option (List Datum) → Completion → Completion
applied job None c = c
applied job (Some data_) c = ending (apply_of job data_)

abbrev pub then_of : Job → Completion → Completion
then_of job c = applied job (value_data c) c

abbrev pub upon_error_of : Job → Completion → Completion
upon_error_of job c = applied job (error_data c) c

abbrev pub upon_stopped_of : Job → Completion → Completion
upon_stopped_of job c = applied job (stopped_data c) c

-- "some" of what it may be of
abbrev pub some_of : Datum → Datum
some_of (Int x) = SomeInt x
some_of (Text t) = SomeText t
some_of (Row xs) = Row xs
some_of (SomeInt x) = SomeInt x
some_of (SomeText t) = SomeText t
some_of Nothing = Nothing

-- one value x becomes "some x", and stopped "none"
abbrev pub as_optional : Completion → Completion
as_optional (Value (x ∷ [])) = Value (some_of x ∷ [])
as_optional Stopped = Value (Nothing ∷ [])
as_optional c = c

abbrev pub as_error : List ℕ → Completion → Completion
as_error name Stopped = Error name
as_error name c = c

-- a kind of which there is a maybe kind
abbrev pub has_maybe : Kind → Bool
has_maybe IntKind = true
has_maybe TextKind = true
has_maybe kind = false
