-- Numbers, words and constants as JSON values, and how members are added to an object.
use Rattle.std.specs.Prelude.{ℕ, ℤ, List, map}
use Rattle.serde_json.specs.Data.{Data, null, number, string, array, Members, no_members, member}
use Rattle.serde_json.specs.Find.{of_integer}
use Rattle.serde_json.specs.View.{items_of}
use Rattle.exec_value.specs.declared.data.Datum.{Datum}
use Rattle.exec_value.specs.declared.data.Datum.TheVariants.{Int, Text, Row}

-- a number of an `i64`
abbrev pub integer_data : ℤ → Data
integer_data n = number (of_integer n)

-- the numbers of a row, in an array
abbrev pub row_data : List ℤ → Data
row_data numbers = array (items_of (map integer_data numbers))

-- a constant: a number, a string, or an array of numbers. No other datum is one.
abbrev pub constant_data : Datum → Data
constant_data (Int n) = integer_data n
constant_data (Text text) = string text
constant_data (Row numbers) = row_data numbers
constant_data datum = null

-- constants, in an array
abbrev pub constants_data : List Datum → Data
constants_data values = array (items_of (map constant_data values))

-- the one member of an object that says only its name
abbrev pub named : List ℕ → List ℕ → Members
named key name = member key (string name) no_members
