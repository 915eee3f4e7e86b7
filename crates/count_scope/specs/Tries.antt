-- The tries of a seal. A seal sets the joined bit of a scope that joins and whose count came to 0:
-- by an exchange that expects such a word, and fails where the word is another. Lists of words that
-- were read begin with the newest.
use Rattle.std.specs.Prelude.{◌≡◌, ◌≢◌, ℕ, ◌≤◌, Bool, true, not, ◌||◌, ◌==◌, List, [], ◌∷◌, length, Result, MatchResult}
use Rattle.life_rules.specs.declared.scope.ScopeWord.{ScopeWord}
use Rattle.life_rules.specs.Scopes.{may_seal}
use Rattle.table_words.specs.ScopeNumbers.{scope_read, scope_written}
use Rattle.table_steps.specs.ScopeMoves.{as_joined}

-- how a seal ended: it sealed, or read a word that asks none
abbrev pub Sealed : Type 0
Sealed = Result (Unit {0}) ScopeWord

-- no seal is asked of the hand that read this word: the scope is joined, or an association is
-- counted, whose leave seals
abbrev pub is_settled : ScopeWord → Bool
is_settled w = w.joined || not (w.count == 0)

-- what the next try expects after tries that read these words: what the last of them read, or the
-- first word where there was none
abbrev pub expected_after : ScopeWord → List ℕ → ScopeWord
expected_after first [] = first
expected_after first (word ∷ words) = scope_read word

-- each of these tries failed: it read another word than it expected, which may be sealed still
abbrev pub AllFailed : ScopeWord → List ℕ → Type 0
AllFailed first [] = Unit {0}
AllFailed first (word ∷ words) =
    (scope_read word ≢ expected_after first words)
    × (may_seal (scope_read word) ≡ true)
    × AllFailed first words

-- the last of at most three tries found what it expected, and left the scope joined; or it read
-- that no seal is asked, and changed nothing. Each try before it failed
pub record AreTries (first : ScopeWord) (answer : Sealed) (words : List ℕ) (left : ℕ) : Type 0 where
  pub last : ℕ
  pub before : List ℕ
  pub words_are : words ≡ last ∷ before
  pub few : length words ≤ 3
  pub failed : AllFailed first before
  pub ends : MatchResult answer
      (λ _. (last ≡ scope_written (expected_after first before))
      × (scope_read left ≡ as_joined (expected_after first before)))
      (λ read. (read ≡ scope_read last) × (is_settled read ≡ true) × (left ≡ last))
