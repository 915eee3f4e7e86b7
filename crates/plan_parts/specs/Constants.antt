-- Constants: numbers, texts and rows of numbers.
use Rattle.std.specs.Prelude.{ℕ, ℤ, List, [], ◌∷◌, ◌++◌, length, nat_lt, Option, Some, None, option_map, option_and_then, unwrap_or, if◌then◌else◌}
use Rattle.std.specs.Option.{option_or, option_map_or}
use Rattle.serde_json.specs.Data.{Data, Items, no_items, item}
use Rattle.serde_json.specs.Find.{get, as_str, as_array}
use Rattle.exec_value.specs.declared.data.Datum.{Datum}
use Rattle.exec_value.specs.declared.data.Datum.TheVariants.{Int, Text, Row}
use Rattle.exec_value.specs.declared.limits.TheConstants.{DATA, NUMBERS}
use Rattle.plan_parts.specs.declared.reading.Reading.{Reading}
use Rattle.plan_parts.specs.declared.reading.Reading.TheVariants.{Good, Bad}
use Rattle.plan_parts.specs.declared.reading.TheConstants.{FORM_FAULT, LIMIT_FAULT}
use Rattle.plan_parts.specs.Reading.{blamed, mapped}
use Rattle.plan_parts.specs.Objects.{integer_of}
use Rattle.plan_parts.specs.Scalars.{txt_of}

-- one number more in a row; what is no number has the wrong form
abbrev pub with_number : Reading (List ℤ) → Option ℤ → Reading (List ℤ)
with_number (Good ns) (Some n) = if nat_lt (length ns) NUMBERS then Good (ns ++ n ∷ [])
    else Bad LIMIT_FAULT
with_number (Bad faults) (Some n) = Bad faults
with_number found None = blamed FORM_FAULT found

-- the numbers that were found, and then these values
abbrev pub numbers_from : Reading (List ℤ) → Items → Reading (List ℤ)
numbers_from found no_items = found
numbers_from found (item d ds) = numbers_from (with_number found (integer_of d)) ds

-- an array as a row
abbrev pub row_of : Items → Reading Datum
row_of ds = mapped Row (numbers_from (Good []) ds)

-- a string as a text
abbrev pub text_datum : List ℕ → Reading Datum
text_datum text = mapped Text (txt_of text)

-- a constant: an integer, a string, or an array of integers
abbrev pub constant_of : Data → Reading Datum
constant_of d =
    unwrap_or (option_or (option_map (λ n. Good (Int n)) (integer_of d))
    (option_or (option_map text_datum (as_str d))
    (option_map row_of (as_array d))))
    (Bad FORM_FAULT)

-- one datum more in a list of constants
abbrev pub with_datum : Reading (List Datum) → Datum → Reading (List Datum)
with_datum (Good cs) c = if nat_lt (length cs) DATA then Good (cs ++ c ∷ []) else Bad LIMIT_FAULT
with_datum (Bad faults) c = Bad faults

-- one constant more
abbrev pub with_constant : Reading (List Datum) → Reading Datum → Reading (List Datum)
with_constant found (Good c) = with_datum found c
with_constant found (Bad faults) = blamed faults found

-- the constants that were found, and then these values
abbrev pub constants_from : Reading (List Datum) → Items → Reading (List Datum)
constants_from found no_items = found
constants_from found (item d ds) = constants_from (with_constant found (constant_of d)) ds

abbrev pub constants_of : Items → Reading (List Datum)
constants_of ds = constants_from (Good []) ds

-- the constants at a key
abbrev pub constants_at : List ℕ → Data → Reading (List Datum)
constants_at key d = option_map_or constants_of (option_and_then as_array (get key d))
    (Bad FORM_FAULT)
