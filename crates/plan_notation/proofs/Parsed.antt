-- What `json_of` is, by what `serde_json` says of the bytes.
use Rattle.std.proofs.Common.{◌≡◌, ℕ, Bool, true, false, List, Option, Some, None, cond, refl, sym}
use Rattle.std.specs.Str.{IsUtf8, is_utf8}
use Rattle.std.proofs.lemmas.Str.{is_utf8-from_IsUtf8, IsUtf8-from_is_utf8}
use Rattle.serde_json.specs.Data.{Data}
use Rattle.serde_json.specs.Read.{read}
use Rattle.plan_reader.specs.Plans.{json_of}

pub json-read : (bytes : List ℕ) (d : Data) → IsUtf8 bytes → read bytes ≡ Some d → Some d ≡ json_of bytes
unfolding json_of
json-read bytes d text is = rw (is_utf8-from_IsUtf8 bytes text) (sym is)

only-utf8 : (b : Bool) (r : Option Data) → (b ≡ true → r ≡ None) → None ≡ cond b r None
only-utf8 true r none = sym (none refl)
only-utf8 false r none = refl

pub json-refused : (bytes : List ℕ) → (IsUtf8 bytes → read bytes ≡ None) → None ≡ json_of bytes
unfolding json_of
json-refused bytes none =
    only-utf8 (is_utf8 bytes) (read bytes) (λ text. none (IsUtf8-from_is_utf8 bytes text))
