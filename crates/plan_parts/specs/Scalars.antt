-- Counts, texts, error names and words.
use Rattle.std.specs.Prelude.{ℕ, ℤ, pos, negsuc, ◌&&◌, List, length, nat_lt, if◌then◌else◌}
use Rattle.std.specs.List.{list_all}
use Rattle.std.specs.Option.{option_map_or}
use Rattle.serde_json.specs.Data.{Data}
use Rattle.exec_value.specs.ErrorName.{is_error_name, is_name_byte}
use Rattle.exec_value.specs.Text.{is_text}
use Rattle.exec_value.specs.declared.limits.TheConstants.{ERROR_NAME_BYTES}
use Rattle.plan_shape.specs.Conditions.{is_within}
use Rattle.plan_parts.specs.declared.reading.Reading.{Reading}
use Rattle.plan_parts.specs.declared.reading.Reading.TheVariants.{Good, Bad}
use Rattle.plan_parts.specs.declared.reading.TheConstants.{FORM_FAULT, LIMIT_FAULT}
use Rattle.plan_parts.specs.Objects.{text_at, number_at}

-- a number that is within these bounds
abbrev pub count_of : ℕ → ℕ → ℤ → Reading ℕ
count_of fewest most (pos n) = if is_within fewest most n then Good n else Bad LIMIT_FAULT
count_of fewest most (negsuc n) = Bad LIMIT_FAULT

-- the same, where a number was read
abbrev pub count_read : ℕ → ℕ → Reading ℤ → Reading ℕ
count_read fewest most (Good n) = count_of fewest most n
count_read fewest most (Bad faults) = Bad faults

-- the same at a key
abbrev pub count_at : List ℕ → ℕ → ℕ → Data → Reading ℕ
count_at key fewest most d = count_read fewest most (number_at key d)

-- a string as an error name: one that is too long passes a limit, and any other has the wrong form
abbrev pub name_of : List ℕ → Reading (List ℕ)
name_of text =
    if is_error_name text then Good text
    else (if nat_lt ERROR_NAME_BYTES (length text) && list_all is_name_byte text
    then Bad LIMIT_FAULT else Bad FORM_FAULT)

-- the same at a key
abbrev pub name_at : List ℕ → Data → Reading (List ℕ)
name_at key d = option_map_or name_of (text_at key d) (Bad FORM_FAULT)

-- a string as a text; strings of JSON are UTF-8, so only its length can be wrong
abbrev pub txt_of : List ℕ → Reading (List ℕ)
txt_of text = if is_text text then Good text else Bad LIMIT_FAULT
