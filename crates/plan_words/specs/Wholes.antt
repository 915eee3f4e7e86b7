-- Which bytes are a token, however they are laid out.
use Rattle.std.specs.Prelude.{ℕ, Bool, true, false, ◌||◌, ◌&&◌, ◌==◌, List, [], ◌∷◌, if◌then◌else◌}
use Rattle.plan_words.specs.Bytes.{ends_word, is_blank, is_mark}

abbrev pub nothing_follows : List ℕ → Bool
nothing_follows [] = true
nothing_follows (b ∷ bytes) = false

-- behind a text's first quote: it ends with the first quote that isn't escaped
abbrev pub text_ends : List ℕ → Bool → Bool
text_ends [] escaped = false
text_ends (b ∷ bytes) true = text_ends bytes false
text_ends (b ∷ bytes) false =
    if b == 92 then text_ends bytes true
    else (if b == 34 then nothing_follows bytes else text_ends bytes false)

-- behind a row's bracket: it ends with the next one, and has no blanks
abbrev pub row_ends : List ℕ → Bool
row_ends [] = false
row_ends (b ∷ bytes) =
    if b == 93 then nothing_follows bytes else (if is_blank b then false else row_ends bytes)

-- behind a word's first byte
abbrev pub word_ends : List ℕ → Bool
word_ends [] = true
word_ends (b ∷ bytes) = if ends_word b then false else word_ends bytes

-- a word or a constant
abbrev pub is_whole : List ℕ → Bool
is_whole [] = false
is_whole (b ∷ bytes) =
    if b == 34 then text_ends bytes false
    else (if b == 91 then row_ends bytes else word_ends (b ∷ bytes))

-- a bar, a bracket or a comma
abbrev pub is_sign : List ℕ → Bool
is_sign [] = false
is_sign (b ∷ bytes) = is_mark b && nothing_follows bytes

abbrev pub is_token : List ℕ → Bool
is_token bytes = is_whole bytes || is_sign bytes
