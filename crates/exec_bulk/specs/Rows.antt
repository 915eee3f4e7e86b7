-- The row that a bulk cuts into parts ([exec.bulk]).
use Rattle.std.specs.Prelude.{ℕ, ◌-◌, min, ℤ, List, [], ◌∷◌, length}
use Rattle.exec_value.specs.declared.data.Datum.TheVariants.{Row}
use Rattle.exec_value.specs.declared.outcome.Completion.{Completion}
use Rattle.exec_value.specs.declared.outcome.Completion.TheVariants.{Value}
use Rattle.plan_shape.specs.declared.limits.TheConstants.{BULK_PARTS}

-- the numbers of a completion that is one row; of any other none
abbrev pub numbers_in : Completion → List ℤ
numbers_in (Value (Row numbers ∷ [])) = numbers
numbers_in done = []

-- so many parts are begun for a row: one for each number, and eight at most
abbrev pub parts_for : List ℤ → ℕ
parts_for numbers = min BULK_PARTS (length numbers)

-- the part that stands first before this bulk
abbrev pub first_part : ℕ → ℕ
first_part bulk = bulk - BULK_PARTS
