-- How a bulk cuts its row into parts ([exec.bulk]): shares of neighbouring elements, whose lengths
-- differ by at most one, the longer ones first.
use Rattle.std.specs.Prelude.{ℕ, ◌+◌, ◌-◌, ◌*◌, ◌/◌, ◌%◌, min, ℤ, pos, List, [], ◌∷◌, length, take, drop}
use Rattle.exec_value.specs.declared.data.Datum.{Datum}
use Rattle.exec_value.specs.declared.data.Datum.TheVariants.{Int, Row}
use Rattle.plan_shape.specs.declared.limits.TheConstants.{BULK_PARTS}

-- the index of the first element of the share of this number, in a row of so many elements
abbrev pub first_index : ℕ → ℕ → ℕ
first_index count part = part * (count / BULK_PARTS) + min part (count % BULK_PARTS)

-- the share of this number: the elements from there to the first of the next share
abbrev pub share_of : List ℤ → ℕ → List ℤ
share_of whole part =
    take (first_index (length whole) (part + 1) - first_index (length whole) part)
    (drop (first_index (length whole) part) whole)

-- the arguments of the part: its share, and the index of the first element in the whole row
abbrev pub part_args : List ℤ → ℕ → List Datum
part_args whole part =
    Row (share_of whole part) ∷ Int (pos (first_index (length whole) part)) ∷ []
