-- Records: the lines of a stream that count, by how its reading ended.
use Rattle.std.specs.Prelude.{◌≡◌, ℕ, ◌<◌, ◌≤◌, ◌⊎◌, List, [], ◌∷◌, ◌++◌, length, take}
use Rattle.record_lines.specs.declared.ending.End.{End}
use Rattle.record_lines.specs.declared.ending.End.TheVariants.{Ended, Fault, Limit}
use Rattle.record_lines.specs.declared.limits.TheConstants.{MOST_RECORDS, MOST_BYTES}
use Rattle.record_lines.specs.Lines.{whole_lines, rest_of, without_cr}

-- a rest of at least one byte is a last line
unfoldable pub last_line : List ℕ → List (List ℕ)
last_line [] = []
last_line (b ∷ rest) = without_cr (b ∷ rest) ∷ []

-- the lines within the limits: the first ones whose line feed stands within the first bytes
unfoldable pub limited_lines : List ℕ → List (List ℕ)
limited_lines bytes = take MOST_RECORDS (whole_lines (take MOST_BYTES bytes))

-- the records of bytes, by how their reading ended
abbrev pub records_of : List ℕ → End → List (List ℕ)
records_of bytes Ended = whole_lines bytes ++ last_line (rest_of bytes)
records_of bytes Fault = whole_lines bytes
records_of bytes Limit = limited_lines bytes

-- a byte of the stream stands after the most whole lines
pub record HasByteAfterMost (bytes : List ℕ) : Type 0 where
  pub front : List ℕ
  pub byte : ℕ
  pub more : List ℕ
  pub split : bytes ≡ front ++ byte ∷ more
  pub full : MOST_RECORDS ≤ length (whole_lines front)

-- bytes pass a limit: there are more than the most, or one stands after the most whole lines
abbrev pub IsBeyond : List ℕ → Type 0
IsBeyond bytes = (MOST_BYTES < length bytes) ⊎ HasByteAfterMost bytes
