-- How a text stands in a label: in quotes, and on one line.
use Rattle.std.specs.Prelude.{ℕ, ◌/◌, ◌%◌, List, [], ◌∷◌, ◌++◌, codes, get_or, nat_eq, nat_lt, if◌then◌else◌}
use Rattle.std.specs.List.{flat_map}

-- the hexadecimal digit of a number below 16
abbrev pub digit : ℕ → List ℕ
digit n = get_or (codes "0123456789abcdef") n 48 ∷ []

-- a byte that a label doesn't show
abbrev pub hidden_text : ℕ → List ℕ
hidden_text byte = codes "\\\\u00" ++ (digit (byte / 16) ++ digit (byte % 16))

-- a byte of a text: a label shows `\"` for a quote and `\\` for a backslash, and an ampersand
-- begins a reference
abbrev pub byte_text : ℕ → List ℕ
byte_text byte =
    if nat_eq byte 34 then codes "\\\\\\\""
    else (if nat_eq byte 92 then codes "\\\\\\\\"
    else (if nat_eq byte 38 then codes "&amp;"
    else (if nat_lt byte 32 then hidden_text byte
    else byte ∷ [])))

unfoldable pub quoted_text : List ℕ → List ℕ
quoted_text bytes = codes "\\\"" ++ (flat_map byte_text bytes ++ codes "\\\"")
