-- The lines that outcomes are written as.
use Rattle.std.specs.Prelude.{ℕ, ◌+◌, ◌/◌, ◌%◌, ◌==◌, ℤ, Bool, false, not, ◌||◌, if◌then◌else◌, List, [], ◌∷◌, ◌++◌, map, codes, decimal}
use Rattle.std.specs.Char.{is_ascii_control}
use Rattle.std.specs.Fmt.{digit_glyph, signed_decimal}
use Rattle.std.specs.List.{flat_map, join_with_byte}
use Rattle.exec_value.specs.Bytes.{line_feed, blank, quote, comma, backslash}
use Rattle.exec_value.specs.declared.data.Datum.{Datum}
use Rattle.exec_value.specs.declared.data.Datum.TheVariants.{Int, Text, Row, SomeInt, SomeText, Nothing}
use Rattle.exec_value.specs.declared.outcome.Completion.{Completion}
use Rattle.exec_value.specs.declared.outcome.Completion.TheVariants.{Value, Error, Stopped, NoMemory}
use Rattle.exec_value.specs.declared.outcome.Outcome.{Outcome}
use Rattle.exec_value.specs.declared.outcome.Outcome.TheVariants.{Done, BadRecord}

-- the two hexadecimal digits of a byte, in lower case
abbrev pub hex_digits : ℕ → List ℕ
hex_digits byte = digit_glyph false (byte / 16) ∷ digit_glyph false (byte % 16) ∷ []

-- a byte of a text that a line shows as it is: no control, no quote and no backslash
abbrev pub is_plain : ℕ → Bool
is_plain byte = not (is_ascii_control byte || byte == quote || byte == backslash)

-- how a line shows any other: a control by its number, a quote and a backslash behind a backslash
abbrev pub escape_of : ℕ → List ℕ
escape_of byte = if is_ascii_control byte then codes "\\u00" ++ hex_digits byte
    else backslash ∷ byte ∷ []

-- a byte of a text as a line shows it
abbrev pub escaped : ℕ → List ℕ
escaped byte = if is_plain byte then byte ∷ [] else escape_of byte

-- a text as a line shows it, between quotes
abbrev pub quoted : List ℕ → List ℕ
quoted bytes = quote ∷ flat_map escaped bytes ++ quote ∷ []

-- a row as a line shows it: its numbers between brackets, with commas between them
abbrev pub row_text : List ℤ → List ℕ
row_text numbers = codes "[" ++ join_with_byte comma (map signed_decimal numbers) ++ codes "]"

-- the text of a datum
unfoldable pub text_of : Datum → List ℕ
text_of (Int n) = signed_decimal n
text_of (Text bytes) = quoted bytes
text_of (Row numbers) = row_text numbers
text_of (SomeInt n) = codes "some " ++ signed_decimal n
text_of (SomeText bytes) = codes "some " ++ quoted bytes
text_of Nothing = codes "none"

-- what a line says of a completion
abbrev pub words_of : Completion → List ℕ
words_of (Value values) = codes "value" ++ flat_map (λ datum. blank ∷ text_of datum) values
words_of (Error name) = codes "error " ++ name
words_of Stopped = codes "stopped"
words_of NoMemory = codes "out-of-memory"

-- what a line says of an outcome
abbrev pub outcome_words : Outcome → List ℕ
outcome_words (Done completion) = words_of completion
outcome_words BadRecord = codes "bad-record"

-- the line of the record of this number: the number, a blank, and what it says of the outcome
unfoldable pub line_of : ℕ → Outcome → List ℕ
line_of number outcome = decimal number ++ blank ∷ outcome_words outcome ++ line_feed ∷ []

-- the lines of outcomes one after another, the first under this number
abbrev pub text_from : ℕ → List Outcome → List ℕ
text_from number [] = []
text_from number (outcome ∷ outcomes) = line_of number outcome ++ text_from (number + 1) outcomes
