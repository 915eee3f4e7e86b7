-- What a text is.
use Rattle.std.specs.Prelude.{ℕ, ◌≤◌, Bool, ◌&&◌, List, length, nat_le}
use Rattle.std.specs.Str.{IsUtf8, is_utf8}
use Rattle.exec_value.specs.declared.limits.TheConstants.{TEXT_BYTES}

-- the bytes are a text: UTF-8, and not too many
pub record IsText (bytes : List ℕ) : Type 0 where
  pub utf8 : IsUtf8 bytes
  pub short : length bytes ≤ TEXT_BYTES

-- `IsText` as a test
abbrev pub is_text : List ℕ → Bool
is_text bytes = is_utf8 bytes && nat_le (length bytes) TEXT_BYTES
