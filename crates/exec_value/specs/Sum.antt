-- The exact sums of numbers.
use Rattle.std.specs.Prelude.{ℕ, ◌*◌, ◌^◌, ℤ, pos, neg_ℤ, ◌+ℤ◌, ◌≤ℤ◌, List, [], ◌∷◌, fold}
use Rattle.std.specs.List.{flat_map}
use Rattle.exec_value.specs.declared.data.Datum.{Datum}
use Rattle.exec_value.specs.declared.data.Datum.TheVariants.{Int, Text, Row, SomeInt, SomeText, Nothing}

-- the sum of numbers
abbrev pub total : List ℤ → ℤ
total numbers = fold ◌+ℤ◌ (pos 0) numbers

-- the numbers of a datum
abbrev pub numbers_of : Datum → List ℤ
numbers_of (Int n) = n ∷ []
numbers_of (Text bytes) = []
numbers_of (Row numbers) = numbers
numbers_of (SomeInt n) = n ∷ []
numbers_of (SomeText bytes) = []
numbers_of Nothing = []

-- the sum of all numbers of data
abbrev pub sum_of_data : List Datum → ℤ
sum_of_data values = total (flat_map numbers_of values)

-- no further from 0 than so many numbers of the type i64 can come
pub record IsWithin (count : ℕ) (sum : ℤ) : Type 0 where
  pub above : neg_ℤ (pos (2 ^ 63 * count)) ≤ℤ sum
  pub below : sum ≤ℤ pos (2 ^ 63 * count)
