-- What a line shows as a record of a kind.
use Rattle.std.specs.Prelude.{ℕ, ◌-◌, ℤ, ◌&&◌, ◌==◌, if◌then◌else◌, List, [], ◌∷◌, ◌++◌, length, nat_le, slice_index, slice_range, Option, Some, None}
use Rattle.std.specs.Option.{option_map, option_and_then}
use Rattle.std.specs.List.{slice_split}
use Rattle.exec_value.specs.Bytes.{comma, open_bracket, close_bracket}
use Rattle.exec_value.specs.Number.{int_of}
use Rattle.exec_value.specs.Text.{is_text}
use Rattle.exec_value.specs.declared.limits.TheConstants.{NUMBERS}
use Rattle.exec_value.specs.declared.kinds.Kind.{Kind}
use Rattle.exec_value.specs.declared.kinds.Kind.TheVariants.{Int as IntKind, Text as TextKind, Row as RowKind, MaybeInt, MaybeText}
use Rattle.exec_value.specs.declared.data.Datum.{Datum}
use Rattle.exec_value.specs.declared.data.Datum.TheVariants.{Int, Text, Row}

-- what stands between `[` and `]`, where a line begins with the one and ends with the other
abbrev pub bracketed : List ℕ → Option (List ℕ)
bracketed line =
    let last : ℕ = length line - 1 in
    if nat_le 2 (length line) && slice_index line 0 == open_bracket
    && slice_index line last == close_bracket
    then Some (slice_range line 1 last) else None

-- the parts between commas, of which the empty list has none
abbrev pub comma_parts : List ℕ → List (List ℕ)
comma_parts [] = []
comma_parts (b ∷ bs) = slice_split (λ byte. byte == comma) (b ∷ bs)

-- the numbers of the parts, where each part is an int record
abbrev pub ints_of : List (List ℕ) → Option (List ℤ)
ints_of [] = Some []
ints_of (part ∷ parts) = option_and_then (λ n. option_map (λ rest. n ∷ rest) (ints_of parts))
    (int_of part)

-- a list of numbers that is no longer than a row may be
abbrev pub within_row : List ℤ → Option (List ℤ)
within_row numbers = if nat_le (length numbers) NUMBERS then Some numbers else None

-- the numbers that a row record has between its brackets, with commas between them
abbrev pub row_numbers : List ℕ → Option (List ℤ)
row_numbers inner = option_and_then within_row (ints_of (comma_parts inner))

-- the numbers of a row record
unfoldable pub row_of : List ℕ → Option (List ℤ)
row_of line = option_and_then row_numbers (bracketed line)

-- a row's numbers so far, and that of one part more
abbrev pub with_number : List ℤ → List ℕ → Option (List ℤ)
with_number numbers part = option_and_then (λ n. within_row (numbers ++ n ∷ [])) (int_of part)

-- the datum that a line shows as a record of this kind
abbrev pub record_of : Kind → List ℕ → Option Datum
record_of IntKind line = option_map Int (int_of line)
record_of TextKind line = if is_text line then Some (Text line) else None
record_of RowKind line = option_map Row (row_of line)
record_of MaybeInt line = None
record_of MaybeText line = None
