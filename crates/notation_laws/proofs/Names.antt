-- Names of errors have no bytes beyond ASCII.
use Rattle.std.proofs.Common.{◌≡◌, ◌<◌, inl, inr, ℕ, ◌||◌, ◌&&◌, true, List, [], ◌∷◌, codes, length, nat_eq, nat_le, nat_lt, refl, arith}
use Rattle.std.specs.Char.{is_ascii_alphanumeric}
use Rattle.std.specs.Int.{is_in_range}
use Rattle.std.specs.List.{list_all, list_any}
use Rattle.std.specs.Str.{IsUtf8}
use Rattle.std.proofs.lemmas.Bool.{and_from, and_parts, eqb-true, false≢true, leb-true, lt-ltb, ltb-true, or_cases}
use Rattle.exec_value.specs.ErrorName.{is_error_name, is_name_byte}
use Rattle.exec_value.specs.declared.limits.TheConstants.{ERROR_NAME_BYTES}
use Rattle.notation_laws.proofs.NamesRead.{ascii_utf8, is_ascii}

in_range : (lo hi b : ℕ) → hi < 128 → (nat_le lo b && nat_le b hi) ≡ true → b < 128
in_range lo hi b small h =
    let most = leb-true b hi (and_parts (nat_le lo b) (nat_le b hi) h).1 in omega (arith, most, small)

alphanumeric : (b : ℕ) → is_ascii_alphanumeric b ≡ true → b < 128
alphanumeric b h =
    elim (or_cases (is_in_range 48 57 b || is_in_range 65 90 b) (is_in_range 97 122 b) h) [
      | inr e ↦ in_range 97 122 b (omega arith) e
      | inl h1 ↦ elim (or_cases (is_in_range 48 57 b) (is_in_range 65 90 b) h1) [
        | inl e ↦ in_range 48 57 b (omega arith) e
        | inr e ↦ in_range 65 90 b (omega arith) e
      ]
    ]

one_of : (b : ℕ) (bytes : List ℕ) → is_ascii bytes ≡ true → list_any (nat_eq b) bytes ≡ true → b < 128
one_of b [] h e = absurd (false≢true e)
one_of b (x ∷ bytes) h e =
    let is = and_parts (nat_lt x 128) (is_ascii bytes) h in
    elim (or_cases (nat_eq b x) (list_any (nat_eq b) bytes) e) [
      | inl same ↦ let at = eqb-true b x same in let small = ltb-true x 128 is.0 in omega (arith, at, small)
      | inr later ↦ one_of b bytes is.1 later
    ]

name_byte : (b : ℕ) → is_name_byte b ≡ true → b < 128
name_byte b h =
    elim (or_cases (is_ascii_alphanumeric b) (list_any (nat_eq b) (codes "-_.@")) h) [
      | inl e ↦ alphanumeric b e
      | inr e ↦ one_of b (codes "-_.@") refl e
    ]

name_bytes : (bytes : List ℕ) → list_all is_name_byte bytes ≡ true → is_ascii bytes ≡ true
name_bytes [] h = refl
name_bytes (b ∷ bytes) h =
    let is = and_parts (is_name_byte b) (list_all is_name_byte bytes) h in
    and_from (nat_lt b 128) (is_ascii bytes) (lt-ltb b 128 (name_byte b is.0)) (name_bytes bytes is.1)

pub error_name_utf8 : (name : List ℕ) → is_error_name name ≡ true → IsUtf8 name
error_name_utf8 name h =
    ascii_utf8 name (name_bytes name
    (and_parts (nat_lt 0 (length name) && nat_le (length name) ERROR_NAME_BYTES) (list_all is_name_byte name) h).1)
