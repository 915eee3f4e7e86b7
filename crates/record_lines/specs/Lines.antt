-- Lines: what the line feeds of a byte list end, and what none has ended.
use Rattle.std.specs.Prelude.{◌≢◌, ℕ, ◌-◌, ◌==◌, List, [], ◌∷◌, Option, Some, None, length, nat_le, map, take, slice_index, All, if◌then◌else◌}
use Rattle.record_lines.specs.declared.limits.TheConstants.{LINE_FEED, CARRIAGE_RETURN, MOST_LINE}

-- bytes cut at each line feed: what each one ends, and the rest after the last one
pub record Cut : Type 0 where
  pub ended : List (List ℕ)
  pub rest : List ℕ

-- a line feed in front ends a line of no bytes
unfoldable pub line_feed_before : Cut → Cut
line_feed_before c = record { ended = [] ∷ c.ended; rest = c.rest }

-- another byte in front begins the first line, or the rest where no line is ended
unfoldable pub byte_before : ℕ → List (List ℕ) → List ℕ → Cut
byte_before b [] rest = record { ended = []; rest = b ∷ rest }
byte_before b (line ∷ lines) rest = record { ended = (b ∷ line) ∷ lines; rest = rest }

-- bytes cut at each line feed
unfoldable pub cut : List ℕ → Cut
cut [] = record { ended = []; rest = [] }
cut (b ∷ bytes) =
    if b == LINE_FEED then line_feed_before (cut bytes)
    else byte_before b (cut bytes).ended (cut bytes).rest

-- a line without the one carriage return at its end
unfoldable pub without_cr : List ℕ → List ℕ
without_cr line =
    let last : ℕ = length line - 1 in
    if slice_index line last == CARRIAGE_RETURN then take last line else line

-- the text of a line that is short enough to be a record
unfoldable pub text_of : List ℕ → Option (List ℕ)
text_of line = if nat_le (length line) MOST_LINE then Some line else None

-- the lines whose line feed stands in bytes
unfoldable pub whole_lines : List ℕ → List (List ℕ)
whole_lines bytes = map without_cr (cut bytes).ended

-- the bytes after the last line feed
unfoldable pub rest_of : List ℕ → List ℕ
rest_of bytes = (cut bytes).rest

-- no byte is a line feed
abbrev pub HasNoLineFeed : List ℕ → Type 0
HasNoLineFeed bytes = All (λ b. b ≢ LINE_FEED) bytes
