-- What a hand needs for the steps of the counting scope (P3149, [exec.scope]), and what they tell
-- it.
use Rattle.std.specs.Prelude.{◌≡◌, ◌≢◌, ℕ, ◌+◌, ◌-◌, ◌^◌, ◌<◌, ◌≤◌, true, nat_le, if◌then◌else◌, Option, Result, MatchResult}
use Rattle.life_rules.specs.declared.scope.ScopeWord.{ScopeWord}
use Rattle.table_words.specs.ScopeNumbers.{scope_read, scope_written}
use Rattle.atomic_table.specs.declared.shared.Seat.{Seat}
use Rattle.table_rules.specs.declared.view.View.{View}
use Rattle.table_rules.specs.Grown.{KeepsBits}
use Rattle.table_steps.specs.Claims.{with_step, logged}
use Rattle.table_steps.specs.Seats.{Seated, homes_of, view_of}
use Rattle.table_steps.specs.Views.{knows}

-- the word with the used bit set, and that with the joined bit set
abbrev pub as_used : ScopeWord → ScopeWord
as_used w = record w { used = true }

abbrev pub as_joined : ScopeWord → ScopeWord
as_joined w = record w { joined = true }

-- the word with one association more, and that with one less
abbrev pub with_one_more : ScopeWord → ScopeWord
with_one_more w = record w { count = w.count + 1 }

abbrev pub with_one_less : ScopeWord → ScopeWord
with_one_less w = record w { count = w.count - 1 }

-- the exchange won, where the word that was read is the old one; else the answer is what was read
abbrev pub AnswersSeal : ℕ → ℕ → Result (Unit {0}) ScopeWord → Type 0
AnswersSeal word old answer =
    MatchResult answer (λ _. word ≡ old) (λ read. (word ≢ old) × (read ≡ scope_read word))

module _ {P E : Type 0} where
  -- the hand has an association in the making
  abbrev pub IsMaking : View P E → Type 0
  IsMaking v = 1 ≤ v.making

  -- the hand has an association that is made or being refused
  abbrev pub MayLeaveScope : View P E → Type 0
  MayLeaveScope v = 1 ≤ v.made + v.refused

  -- the association in the making is made
  abbrev pub makes : View P E → View P E
  makes v = record v { making = v.making - 1; made = v.made + 1 }

  -- an association is left: one that is being refused goes first
  abbrev pub leaves_scope : View P E → View P E
  leaves_scope v =
      if nat_le 1 v.refused then record v { refused = v.refused - 1 }
      else record v { made = v.made - 1 }

  -- the step read this of the scope's word, is listed, and changed nothing
  pub record ReadsScope (answer : ScopeWord) (old new : Seat (Option P) (View P E)) : Type 0 where
    pub word : ℕ
    pub answer_is : answer ≡ scope_read word
    pub me_is : new.me ≡ (logged 0 word (knows old), homes_of old.me)

  -- what a step tells that read this of the scope's word and left that: the word is so changed, and
  -- so is what the hand knows
  pub record MovesScopeAt (leaves : ScopeWord → ScopeWord) (change : ScopeWord → View P E →
      View P E) (i read left : ℕ) (m m' : Seated P E) : Type 0 where
    pub me_is : m' ≡ (with_step i read left (change (scope_read read) (view_of m)), homes_of m)
    pub left_is : scope_read left ≡ leaves (scope_read read)

  -- the step read this of the scope's word, left the word so changed, and changed so what the hand
  -- knows
  pub record MovesScope (leaves : ScopeWord → ScopeWord) (change : View P E → View P E)
      (answer : ScopeWord) (old new : Seat (Option P) (View P E)) : Type 0 where
    pub read : ℕ
    pub answer_is : answer ≡ scope_read read
    pub left : ℕ
    pub left_is : scope_read left ≡ leaves answer
    pub me_is : new.me ≡ (with_step 0 read left (change (knows old)), homes_of old.me)

  -- some word was read and left as used, and the association is made
  abbrev pub IsMade : Seat (Option P) (View P E) → Seat (Option P) (View P E) → Type 0
  IsMade old new = (answer : ScopeWord) × MovesScope as_used makes answer old new

  -- the exchange found this word, which has no bits but its four and the count, and each that the
  -- hand's earlier steps read or left
  pub record SealsAt (i found left : ℕ) (m m' : Seated P E) : Type 0 where
    pub me_is : m' ≡ (with_step i found left (view_of m), homes_of m)
    pub narrow : found < 2 ^ 36
    pub bits : KeepsBits (view_of m).steps (scope_read found)

  -- the word that was read was the one that says what was expected, and was left saying that the
  -- scope is joined; or it says something else, which is told, and stayed
  pub record IsSealedAs (expected : ScopeWord) (answer : Result (Unit {0}) ScopeWord)
      (old new : Seat (Option P) (View P E)) : Type 0 where
    pub word : ℕ
    pub left : ℕ
    pub me_is : new.me ≡ (with_step 0 word left (knows old), homes_of old.me)
    pub cause : MatchResult answer (λ _. (word ≡ scope_written expected)
        × (scope_read left ≡ as_joined expected))
        (λ read. (read ≢ expected) × (read ≡ scope_read word) × (left ≡ word))
    -- it has each bit that the hand's earlier steps read or left
    pub bits : KeepsBits (knows old).steps (scope_read word)
