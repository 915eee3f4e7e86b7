-- What a token is, by its first byte.
use Rattle.std.specs.Prelude.{ℕ, Bool, ◌||◌, ◌&&◌, ◌==◌, nat_le, List, [], ◌∷◌, if◌then◌else◌}
use Rattle.plan_words.specs.declared.kind.TokenKind.{TokenKind}
use Rattle.plan_words.specs.declared.kind.TokenKind.TheVariants.{Word, Constant, Bar, Open, Close, Comma}

-- a constant begins with a quote, a bracket, a minus or a digit
abbrev pub begins_constant : ℕ → Bool
begins_constant b = (b == 34) || (b == 91) || (b == 45) || (nat_le 48 b && nat_le b 57)

abbrev pub kind_of_first : ℕ → TokenKind
kind_of_first b =
    if b == 124 then Bar else (if b == 40 then Open else (if b == 41 then Close
    else (if b == 44 then Comma else (if begins_constant b then Constant else Word))))

abbrev pub token_kind : List ℕ → TokenKind
token_kind [] = Word
token_kind (b ∷ bytes) = kind_of_first b
