-- How a value of a file is shown in a sentence.
use Rattle.std.specs.Prelude.{ℕ, ◌++◌, List, length, nat_lt, is_some, if◌then◌else◌, codes, decimal}
use Rattle.std.specs.Fmt.{signed_decimal}
use Rattle.std.specs.List.{join_by}
use Rattle.std.specs.Option.{option_map_or}
use Rattle.json.specs.Print.{quoted}
use Rattle.serde_json.specs.Data.{Data, Items}
use Rattle.serde_json.specs.Find.{as_array, as_bool, as_number, as_object, as_str}
use Rattle.plan_parts.specs.Objects.{integer_of}
use Rattle.plan_reasons.specs.declared.shown.TheConstants.{MOST_SHOWN}
use Rattle.plan_reasons.specs.Own.{item_count}

-- words one after the other, with a separator between them
abbrev pub joined : List ℕ → List (List ℕ) → List ℕ
joined separator words = join_by (λ word. word) separator words

-- a string, as JSON has it where it isn't long
abbrev pub shown_text : List ℕ → List ℕ
shown_text text =
    if nat_lt MOST_SHOWN (length text)
    then codes "a string of " ++ (decimal (length text) ++ codes " bytes") else quoted text

-- an array, by its length
abbrev pub shown_array : Items → List ℕ
shown_array ds = codes "an array of " ++ decimal (item_count ds)

-- what is no integer of 64 bits, no string and no array
abbrev pub shown_other : Data → List ℕ
shown_other d =
    if is_some (as_object d) then codes "an object"
    else (if is_some (as_number d) then codes "another number"
    else (if is_some (as_bool d) then codes "a boolean" else codes "null"))

unfoldable pub shown : Data → List ℕ
shown d =
    option_map_or signed_decimal (integer_of d)
    (option_map_or shown_text (as_str d)
    (option_map_or shown_array (as_array d) (shown_other d)))
