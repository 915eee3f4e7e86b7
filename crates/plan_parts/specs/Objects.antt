-- Objects of JSON, by their keys. An object has each key once, the last value that stood there.
use Rattle.std.specs.Prelude.{ℕ, ℤ, Bool, false, not, List, [], ◌∷◌, Option, Some, None, option_and_then, if◌then◌else◌}
use Rattle.std.specs.List.{list_any}
use Rattle.std.specs.Option.{option_map_or}
use Rattle.std.specs.Str.{bytes_eq}
use Rattle.serde_json.specs.Data.{Data, Members, no_members, member}
use Rattle.serde_json.specs.Find.{get, as_object, as_str, as_number, as_i64}
use Rattle.plan_parts.specs.declared.reading.Reading.{Reading}
use Rattle.plan_parts.specs.declared.reading.Reading.TheVariants.{Good, Bad}
use Rattle.plan_parts.specs.declared.reading.TheConstants.{FORM_FAULT, NAME_FAULT}
use Rattle.plan_parts.specs.Reading.{blamed}

-- a JSON integer that an `i64` holds
abbrev pub integer_of : Data → Option ℤ
integer_of d = option_and_then as_i64 (as_number d)

-- a number, or the form is wrong
abbrev pub number_of : Option ℤ → Reading ℤ
number_of (Some n) = Good n
number_of None = Bad FORM_FAULT

-- the string and the number at a key
abbrev pub text_at : List ℕ → Data → Option (List ℕ)
text_at key d = option_and_then as_str (get key d)

abbrev pub number_at : List ℕ → Data → Reading ℤ
number_at key d = number_of (option_and_then integer_of (get key d))

-- the keys of the members, in their order
abbrev pub keys_of : Members → List (List ℕ)
keys_of no_members = []
keys_of (member key value members) = key ∷ keys_of members

-- one of the keys isn't one of these
abbrev pub has_unknown : List (List ℕ) → List (List ℕ) → Bool
has_unknown known keys = list_any (λ key. not (list_any (bytes_eq key) known)) keys

-- the same of an object
abbrev pub has_unknown_key : List (List ℕ) → Data → Bool
has_unknown_key known d = option_map_or (λ ms. has_unknown known (keys_of ms)) (as_object d) false

-- a reading of an object's parts, whose keys are these: another key is a fault
abbrev pub with_keys : {A : Type 0} → List (List ℕ) → Data → Reading A → Reading A
with_keys known d reading = if has_unknown_key known d then blamed NAME_FAULT reading else reading
