-- Places in a text: a line and a column, from 1. A column is a character.
use Rattle.std.specs.Prelude.{ℕ, ◌+◌, ◌&&◌, ◌==◌, nat_le, List, take, if◌then◌else◌}
use Rattle.std.specs.List.{fold}
use Rattle.plan_words.specs.declared.place.Place.{Place}

-- behind one byte more: a line feed ends the line, and the inner bytes of a character have the
-- place of its first
abbrev pub after_byte : Place → ℕ → Place
after_byte p b =
    if b == 10 then record { line = p.line + 1; column = 1 }
    else (if nat_le 128 b && nat_le b 191 then p
    else record { line = p.line; column = p.column + 1 })

abbrev pub first_place : Place
first_place = record { line = 1; column = 1 }

-- behind so many bytes of the text
abbrev pub place_behind : List ℕ → ℕ → Place
place_behind text at = fold after_byte first_place (take at text)
