-- Which bytes end a token.
use Rattle.std.specs.Prelude.{ℕ, Bool, ◌||◌, ◌==◌}

-- a blank, a tab, or the end of a line
abbrev pub is_blank : ℕ → Bool
is_blank b = (b == 32) || (b == 9) || (b == 10) || (b == 13)

-- a bar, a bracket or a comma: a token alone
abbrev pub is_mark : ℕ → Bool
is_mark b = (b == 124) || (b == 40) || (b == 41) || (b == 44)

-- no word has these, nor a quote, the bracket of a row, or the sign of a comment
abbrev pub ends_word : ℕ → Bool
ends_word b = is_blank b || is_mark b || (b == 34) || (b == 91) || (b == 35)
