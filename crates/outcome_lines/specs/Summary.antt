-- The one line that stands in place of all others.
use Rattle.std.specs.Prelude.{ℕ, ℤ, Bool, true, false, List, [], ◌∷◌, ◌++◌, length, codes, decimal, count_by}
use Rattle.std.specs.Fmt.{signed_decimal}
use Rattle.std.specs.List.{flat_map}
use Rattle.exec_value.specs.Bytes.{line_feed}
use Rattle.exec_value.specs.Sum.{numbers_of, total}
use Rattle.exec_value.specs.declared.outcome.Completion.TheVariants.{Value, Error, Stopped, NoMemory}
use Rattle.exec_value.specs.declared.outcome.Outcome.{Outcome}
use Rattle.exec_value.specs.declared.outcome.Outcome.TheVariants.{Done, BadRecord}

abbrev pub is_value : Outcome → Bool
is_value (Done (Value values)) = true
is_value _ = false

abbrev pub is_error : Outcome → Bool
is_error (Done (Error name)) = true
is_error _ = false

abbrev pub is_stopped : Outcome → Bool
is_stopped (Done Stopped) = true
is_stopped _ = false

abbrev pub is_out_of_memory : Outcome → Bool
is_out_of_memory (Done NoMemory) = true
is_out_of_memory _ = false

abbrev pub is_bad_record : Outcome → Bool
is_bad_record BadRecord = true
is_bad_record _ = false

-- the numbers of a value line
abbrev pub line_numbers : Outcome → List ℤ
line_numbers (Done (Value values)) = flat_map numbers_of values
line_numbers _ = []

-- the exact sum of all numbers in value lines
abbrev pub sum_of : List Outcome → ℤ
sum_of outcomes = total (flat_map line_numbers outcomes)

-- the summary line
unfoldable pub summary_of : List Outcome → List ℕ
summary_of outcomes =
    codes "records " ++ decimal (length outcomes)
    ++ codes " values " ++ decimal (count_by is_value outcomes)
    ++ codes " errors " ++ decimal (count_by is_error outcomes)
    ++ codes " stopped " ++ decimal (count_by is_stopped outcomes)
    ++ codes " out-of-memory " ++ decimal (count_by is_out_of_memory outcomes)
    ++ codes " bad " ++ decimal (count_by is_bad_record outcomes)
    ++ codes " sum " ++ signed_decimal (sum_of outcomes) ++ line_feed ∷ []
