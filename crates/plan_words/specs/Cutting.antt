-- How a text is cut into tokens, byte by byte.
use Rattle.std.specs.Prelude.{ℕ, ◌+◌, ◌==◌, List, [], ◌∷◌, ◌++◌, if◌then◌else◌}
use Rattle.plan_words.specs.declared.cutter.Mode.{Mode}
use Rattle.plan_words.specs.declared.cutter.Mode.TheVariants.{Between, Comment, Word, Text, Escaped, Quoted, Joined, Row, Gap}
use Rattle.plan_words.specs.Bytes.{ends_word, is_blank, is_mark}
use Rattle.plan_words.specs.Lexemes.{Lexeme}

-- the tokens so far, the one that isn't ended, and what the next byte is part of
pub record CutSoFar : Type 0 where
  pub tokens : List Lexeme
  pub part : Lexeme
  pub mode : Mode

abbrev pub before_text : CutSoFar
before_text = record { tokens = []; part = record { text = []; at = 0 }; mode = Between }

abbrev pub in_mode : Mode → CutSoFar → CutSoFar
in_mode mode c = record c { mode = mode }

-- one byte more of the token
abbrev pub grown : ℕ → CutSoFar → CutSoFar
grown b c = record c { part = record { text = c.part.text ++ b ∷ []; at = c.part.at } }

-- the token ends
abbrev pub closed : CutSoFar → CutSoFar
closed c = record {
  tokens = c.tokens ++ c.part ∷ [];
  part = record { text = []; at = c.part.at };
  mode = Between;
}

-- a token begins
abbrev pub mode_of : ℕ → Mode
mode_of b = if b == 34 then Text else (if b == 91 then Gap else Word)

abbrev pub token_begun : ℕ → ℕ → CutSoFar → CutSoFar
token_begun at b c =
    record { tokens = c.tokens; part = record { text = b ∷ []; at = at }; mode = mode_of b }

abbrev pub alone : ℕ → ℕ → CutSoFar → CutSoFar
alone at b c = if is_mark b then closed (token_begun at b c) else token_begun at b c

-- a byte that belongs to no token before it
abbrev pub between_tokens : ℕ → ℕ → CutSoFar → CutSoFar
between_tokens at b c =
    if is_blank b then in_mode Between c
    else (if b == 35 then in_mode Comment c else alone at b c)

-- the next byte of a text: a quote may end it, and a backslash escapes a byte
abbrev pub after_text_byte : ℕ → CutSoFar → CutSoFar
after_text_byte b c =
    if b == 92 then in_mode Escaped c
    else (if b == 34 then in_mode Quoted c else grown b c)

abbrev pub after_escape : ℕ → CutSoFar → CutSoFar
after_escape b c = grown b (grown 92 (in_mode Text c))

-- the byte behind a quote: a backslash joins the text with the next
abbrev pub after_quote : ℕ → ℕ → CutSoFar → CutSoFar
after_quote at b c =
    if b == 92 then in_mode Joined c else between_tokens at b (closed (grown 34 c))

-- the byte behind such a backslash: blanks don't count, and what isn't joined keeps the backslash
abbrev pub after_joint : ℕ → ℕ → CutSoFar → CutSoFar
after_joint at b c =
    if is_blank b then c
    else (if b == 34 then in_mode Text c else between_tokens at b (closed (grown 92 (grown 34 c))))

-- the next byte of a row: behind a comma, as behind its bracket, blanks don't count
abbrev pub after_row : ℕ → CutSoFar → CutSoFar
after_row b c =
    if b == 93 then closed (grown b c)
    else in_mode (if b == 44 then Gap else Row) (grown b c)

abbrev pub after_word : ℕ → ℕ → CutSoFar → CutSoFar
after_word at b c = if ends_word b then between_tokens at b (closed c) else grown b c

-- the next byte, at this offset
abbrev pub after_mode : Mode → ℕ → ℕ → CutSoFar → CutSoFar
after_mode Between at b c = between_tokens at b c
after_mode Comment at b c = if b == 10 then in_mode Between c else c
after_mode Word at b c = after_word at b c
after_mode Text at b c = after_text_byte b c
after_mode Escaped at b c = after_escape b c
after_mode Quoted at b c = after_quote at b c
after_mode Joined at b c = after_joint at b c
after_mode Row at b c = after_row b c
after_mode Gap at b c = if is_blank b then c else after_row b c

abbrev pub after_byte : ℕ → ℕ → CutSoFar → CutSoFar
after_byte at b c = after_mode c.mode at b c

-- all bytes, of which the first stands at this offset
abbrev pub cut : ℕ → List ℕ → CutSoFar → CutSoFar
cut at [] c = c
cut at (b ∷ bytes) c = cut (at + 1) bytes (after_byte at b c)

-- the text ends: so does its last token
abbrev pub tokens_at_end : Mode → CutSoFar → List Lexeme
tokens_at_end Between c = c.tokens
tokens_at_end Comment c = c.tokens
tokens_at_end Quoted c = (closed (grown 34 c)).tokens
tokens_at_end mode c = (closed c).tokens

abbrev pub all_tokens : CutSoFar → List Lexeme
all_tokens c = tokens_at_end c.mode c

-- the tokens of a text
abbrev pub tokens_of : List ℕ → List Lexeme
tokens_of text = all_tokens (cut 0 text before_text)
