-- A text that is laid out token by token.
use Rattle.std.specs.Prelude.{◌≡◌, ℕ, Bool, true, false, List, [], ◌∷◌, ◌++◌, replicate}
use Rattle.plan_words.specs.Seen.{IsBetween, can_end, seen_in, words_in}

-- the text, and whether a blank has to stand before a word or a constant that comes next
pub record PageSeen : Type 0 where
  pub text : List ℕ
  pub apart : Bool

-- these are the tokens so far, and more can come
pub record HoldsTokens (words : List (List ℕ)) (page : PageSeen) : Type 0 where
  pub words_are : words_in page.text ≡ words
  pub can_end : can_end (seen_in page.text).mode ≡ true
  pub between : page.apart ≡ false → IsBetween (seen_in page.text)

-- no token more, or this one
abbrev pub KeepsTokens : PageSeen → PageSeen → Type 0
KeepsTokens old new = (words : List (List ℕ)) → HoldsTokens words old → HoldsTokens words new

abbrev pub AddsToken : List ℕ → PageSeen → PageSeen → Type 0
AddsToken word old new = (words : List (List ℕ)) → HoldsTokens words old
    → HoldsTokens (words ++ word ∷ []) new

abbrev pub AddsTokens : List (List ℕ) → PageSeen → PageSeen → Type 0
AddsTokens more old new = (words : List (List ℕ)) → HoldsTokens words old
    → HoldsTokens (words ++ more) new

-- a line begins
pub record IsOnNextLine (old new : PageSeen) : Type 0 where
  pub columns : ℕ
  pub text_is : new.text ≡ old.text ++ 10 ∷ replicate columns 32
  pub apart_is : new.apart ≡ false
