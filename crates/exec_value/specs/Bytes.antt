-- The bytes that records and lines are made with.
use Rattle.std.specs.Prelude.{ℕ}

abbrev pub line_feed : ℕ
line_feed = 10

abbrev pub blank : ℕ
blank = 32

-- `"`
abbrev pub quote : ℕ
quote = 34

abbrev pub comma : ℕ
comma = 44

-- `\`
abbrev pub backslash : ℕ
backslash = 92

-- `[`
abbrev pub open_bracket : ℕ
open_bracket = 91

-- `]`
abbrev pub close_bracket : ℕ
close_bracket = 93
