-- What is said of a key: that it isn't there, takes another value, or isn't known.
use Rattle.std.specs.Prelude.{◌≡◌, ℕ, ◌+◌, ◌++◌, not, List, [], is_some, Option, Some, None, String, string_bytes, option_and_then, option_map, unwrap_or, if◌then◌else◌, codes, decimal}
use Rattle.std.specs.declared.alloc.Global.{Global}
use Rattle.std.specs.List.{find, list_any}
use Rattle.std.specs.Option.{option_map_or, option_or}
use Rattle.std.specs.Str.{bytes_eq}
use Rattle.serde_json.specs.Data.{Data, array, Items, no_items, item}
use Rattle.serde_json.specs.Find.{as_array, as_object, get}
use Rattle.plan_parts.specs.Constants.{constant_of}
use Rattle.plan_parts.specs.Objects.{keys_of}
use Rattle.plan_reasons.specs.declared.own.Fault.{Fault}
use Rattle.plan_reasons.specs.declared.part.Part.{Part}
use Rattle.plan_reasons.specs.declared.part.Part.TheVariants.{Values}
use Rattle.plan_reasons.specs.Own.{faults_of, has}
use Rattle.plan_reasons.specs.Parts.{is_values, part_key, wanted_at}
use Rattle.plan_reasons.specs.Shown.{joined, shown, shown_text}

-- the value at a key is another than it takes
abbrev pub takes_other : Part → Data → List ℕ
takes_other part d =
    codes "\"" ++ (part_key part
    ++ (codes "\" takes " ++ (wanted_at part ++ (codes ", not " ++ shown d))))

-- who has no such key, or is no object
abbrev pub needs_key : List ℕ → Part → List ℕ
needs_key who part = who ++ (codes " needs the key \"" ++ (part_key part ++ codes "\""))

abbrev pub no_object : List ℕ → Data → List ℕ
no_object who d = who ++ (codes " is an object, not " ++ shown d)

abbrev pub needs : List ℕ → Part → Data → List ℕ
needs who part d = if is_some (as_object d) then needs_key who part else no_object who d

-- what is wrong at a key
unfoldable pub wrong_at : List ℕ → Part → Data → List ℕ
wrong_at who part d =
    option_map_or (takes_other part) (get (part_key part) d) (needs who part d)

-- the first key that isn't known
abbrev pub first_unknown : List (List ℕ) → List (List ℕ) → Option (List ℕ)
first_unknown known keys = find (λ key. not (list_any (bytes_eq key) known)) keys

abbrev pub unknown_in : List (List ℕ) → Data → Option (List ℕ)
unknown_in known d = option_and_then (λ ms. first_unknown known (keys_of ms)) (as_object d)

-- keys one after the other
abbrev pub listed : List (List ℕ) → List ℕ
listed keys = joined (codes ", ") keys

-- who has a key that isn't known, and which are
unfoldable pub unknown_key : List ℕ → List (List ℕ) → Data → List ℕ
unknown_key who known d =
    codes "unknown key " ++ (shown_text (unwrap_or (unknown_in known d) [])
    ++ (codes "; " ++ (who ++ (codes " takes " ++ listed known))))

-- a sentence that was made, or none
abbrev pub IsSaid : Option (List ℕ) → Option (String Global) → Type 0
IsSaid wanted found = option_map string_bytes found ≡ wanted

-- a constant of the array at a key, which are numbered from 0
abbrev pub bad_constant : ℕ → Data → List ℕ
bad_constant index d =
    codes "values[" ++ (decimal index
    ++ (codes "] takes an integer of 64 bits, a string of at most 4096 bytes or an array of at most 4096 integers, not "
    ++ shown d))

-- the first of the constants that has the fault
abbrev pub first_bad : Fault → ℕ → Items → Option (List ℕ)
first_bad fault index no_items = None
first_bad fault index (item d ds) =
    if has fault (faults_of (constant_of d)) then Some (bad_constant index d)
    else first_bad fault (index + 1) ds

-- what is wrong with constants: one of them, or how many they are
unfoldable pub wrong_values : Fault → List ℕ → Data → List ℕ
wrong_values fault who d =
    unwrap_or (option_and_then (first_bad fault 0)
    (option_and_then as_array (get (codes "values") d)))
    (wrong_at who Values d)

-- what is wrong at a key that has the fault
abbrev pub wrong_part : Fault → List ℕ → Part → Data → List ℕ
wrong_part fault who part d =
    if is_values part then wrong_values fault who d else wrong_at who part d
