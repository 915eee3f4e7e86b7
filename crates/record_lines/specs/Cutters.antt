-- Cutters: what one keeps of a stream that it takes piece by piece, and what each piece does.
use Rattle.std.specs.Prelude.{◌≡◌, ℕ, ◌+◌, ◌==◌, Bool, List, [], ◌∷◌, ◌++◌, Option, length, take, MatchOption, if◌then◌else◌}
use Rattle.record_lines.specs.declared.ending.End.TheVariants.{Ended}
use Rattle.record_lines.specs.declared.limits.TheConstants.{MOST_LINE}
use Rattle.record_lines.specs.declared.line_end.LineEnd.{LineEnd}
use Rattle.record_lines.specs.Lines.{whole_lines, rest_of, without_cr, text_of}
use Rattle.record_lines.specs.LineEnds.{through}
use Rattle.record_lines.specs.Records.{records_of}

-- the most bytes that a cutter keeps of a line: a longest record, a carriage return, and one more
unfoldable pub room : ℕ
room = MOST_LINE + 2

-- what a cutter keeps: of the rest of its stream, and of the line that ended last; of a line that
-- stood whole in one piece it keeps nothing
pub record Held : Type 0 where
  pub rest : List ℕ
  pub line : List ℕ

-- kept bytes are of the rest, until their line is ended
abbrev pub held_by : List ℕ → Bool → Held
held_by kept is_ended = record {
  rest = if is_ended then [] else kept;
  line = if is_ended then kept else [];
}

-- what is kept of a line that ends with this part: nothing where the part is the whole line
abbrev pub line_kept : List ℕ → List ℕ → List ℕ
line_kept rest part = if length rest == 0 then [] else take room (rest ++ part)

-- the line at an end, as far as it is kept: in the cutter, or else in the piece
abbrev pub line_at : Held → LineEnd → List ℕ
line_at held end = if length held.line == 0 then end.front.now else held.line

-- the cutter stands after bytes: it keeps the first bytes of their rest
pub record StandsAfter (held : Held) (bytes : List ℕ) : Type 0 where
  pub keeps : held.rest ≡ take room (rest_of bytes)

-- the cutter has this line, at this end
pub record HasLine (held : Held) (end : LineEnd) (line : List ℕ) : Type 0 where
  pub text : text_of (without_cr (line_at held end)) ≡ text_of line

-- a piece without a line feed goes on with the rest
pub record GoesOn (piece : List ℕ) (new : Held) (bytes : List ℕ) : Type 0 where
  pub lines : whole_lines (bytes ++ piece) ≡ whole_lines bytes
  pub stands : StandsAfter new (bytes ++ piece)

-- the line that ends there after bytes
abbrev pub line_after : List ℕ → LineEnd → List ℕ
line_after bytes end = without_cr (rest_of bytes ++ end.front.now)

-- the first line feed of a piece ends a line
pub record EndsLine (new : Held) (bytes : List ℕ) (end : LineEnd) : Type 0 where
  pub lines : whole_lines (bytes ++ through end) ≡ whole_lines bytes ++ line_after bytes end ∷ []
  pub line : HasLine new end (line_after bytes end)
  pub stands : StandsAfter new (bytes ++ through end)

-- what taking a piece does, whatever bytes came before
abbrev pub Takes : List ℕ → Held → Held → Option LineEnd → Type 0
Takes piece old new result =
    (bytes : List ℕ) → StandsAfter old bytes
    → MatchOption result (GoesOn piece new bytes) (EndsLine new bytes)

-- the last line of a stream that ended with these bytes
pub record EndsStream (new : Held) (bytes : List ℕ) (end : LineEnd) : Type 0 where
  pub lines : records_of bytes Ended ≡ whole_lines bytes ++ without_cr (rest_of bytes) ∷ []
  pub line : HasLine new end (without_cr (rest_of bytes))

-- what the end of the stream does, whatever bytes came before
abbrev pub Finishes : Held → Held → Option LineEnd → Type 0
Finishes old new result =
    (bytes : List ℕ) → StandsAfter old bytes
    → MatchOption result (records_of bytes Ended ≡ whole_lines bytes) (EndsStream new bytes)
