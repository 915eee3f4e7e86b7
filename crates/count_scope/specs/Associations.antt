-- How an association is made, or turned away (P3149, [exec.scope]).
use Rattle.std.specs.Prelude.{◌≡◌, ℕ, ◌+◌, Bool, true, false, Some, None, Result, MatchResult}
use Rattle.life_rules.specs.declared.scope.Refused.{Refused}
use Rattle.life_rules.specs.Scopes.{refusal}
use Rattle.table_words.specs.ScopeNumbers.{scope_read}
use Rattle.table_steps.specs.Claims.{with_step}
use Rattle.table_steps.specs.Seats.{Seated, homes_of, view_of}
use Rattle.table_steps.specs.ScopeMoves.{as_used, with_one_more}
use Rattle.count_scope.specs.declared.members.Association.{Association}
use Rattle.count_scope.specs.Leaves.{Leaves}

-- what `associate` answers
abbrev pub Answer : Type 0
Answer = Result Association Refused

module _ {P E : Type 0} where
  -- the hand has one association more
  abbrev pub associated : Seated P E → Seated P E
  associated m = (record (view_of m) { made = (view_of m).made + 1 }, homes_of m)

  -- a step read this word, and left it with the used bit set
  pub record IsMarked (m m' : Seated P E) : Type 0 where
    pub read : ℕ
    pub left : ℕ
    pub left_is : scope_read left ≡ as_used (scope_read read)
    pub me_is : m' ≡ (with_step 0 read left (view_of m), homes_of m)

  -- the used bit was read as set, and there was no step more; else a step marked it
  abbrev pub MarksWhere : Bool → Seated P E → Seated P E → Type 0
  MarksWhere true m m' = m' ≡ m
  MarksWhere false m m' = IsMarked m m'

  -- the entry read this word, and left one that counts one more. By the word that was read alone
  -- the association is kept or refused. One that is kept is made, the scope being marked as used.
  -- One that is refused is left again
  pub record Associates (most : ℕ) (answer : Answer) (m m' : Seated P E) : Type 0 where
    pub word : ℕ
    pub left : ℕ
    pub left_is : scope_read left ≡ with_one_more (scope_read word)
    pub ends : MatchResult answer
        (λ _. (refusal (scope_read word) most ≡ None)
        × MarksWhere (scope_read word).used
        (associated (with_step 0 word left (view_of m), homes_of m)) m')
        (λ cause. (refusal (scope_read word) most ≡ Some cause)
        × Leaves (with_step 0 word left (view_of m), homes_of m) m')

  -- the hand has one association more where one was made, and as many as before where it was
  -- refused; else only the list of its steps is another
  abbrev pub CountsOne : Answer → Seated P E → Seated P E → Type 0
  CountsOne answer m m' =
      MatchResult answer
      (λ _. m' ≡ (
        record (view_of m) { made = (view_of m).made + 1; steps = (view_of m').steps },
        homes_of m,
      ))
      (λ _. m' ≡ (record (view_of m) { steps = (view_of m').steps }, homes_of m))
