-- What is seen at the end of a text, wherever its tokens stand.
use Rattle.std.specs.Prelude.{◌≡◌, ⊤, ℕ, Bool, true, false, List, [], ◌∷◌, map, not}
use Rattle.plan_words.specs.declared.cutter.Mode.{Mode}
use Rattle.plan_words.specs.declared.cutter.Mode.TheVariants.{Between, Word, Text, Escaped, Quoted, Row, Gap}
use Rattle.plan_words.specs.Cutting.{CutSoFar, before_text, cut, tokens_of}
use Rattle.plan_words.specs.Lexemes.{Lexeme}
use Rattle.plan_words.specs.Wholes.{row_ends, text_ends}

-- the tokens that ended, the bytes of the one that didn't, and what the next byte is part of
pub record Seen : Type 0 where
  pub words : List (List ℕ)
  pub part : List ℕ
  pub mode : Mode

abbrev pub texts : List Lexeme → List (List ℕ)
texts = map (λ t. t.text)

abbrev pub seen : CutSoFar → Seen
seen c = record { words = texts c.tokens; part = c.part.text; mode = c.mode }

-- at the end of a text
unfoldable pub seen_in : List ℕ → Seen
seen_in text = seen (cut 0 text before_text)

-- its tokens
unfoldable pub words_in : List ℕ → List (List ℕ)
words_in text = texts (tokens_of text)

-- no token is begun
abbrev pub IsBetween : Seen → Type 0
IsBetween s = s.mode ≡ Between

-- a blank or a mark ends the token, if one is begun
abbrev pub can_end : Mode → Bool
can_end Between = true
can_end Word = true
can_end Quoted = true
can_end mode = false

-- these bytes of a text are left, and it can be cut here, or the next byte is escaped
abbrev pub mode_in_text : Bool → Mode
mode_in_text true = Text
mode_in_text false = Escaped

abbrev pub IsInText : Bool → List ℕ → Seen → Type 0
IsInText can_cut [] s = ⊤
IsInText can_cut (b ∷ bytes) s =
    (s.mode ≡ mode_in_text can_cut) × (text_ends (b ∷ bytes) (not can_cut) ≡ true)

-- these bytes of a row are left, and it can be cut here, or not
abbrev pub mode_in_row : Bool → Mode
mode_in_row true = Gap
mode_in_row false = Row

abbrev pub IsInRow : Bool → List ℕ → Seen → Type 0
IsInRow can_cut [] s = ⊤
IsInRow can_cut (b ∷ bytes) s = (s.mode ≡ mode_in_row can_cut) × (row_ends (b ∷ bytes) ≡ true)
