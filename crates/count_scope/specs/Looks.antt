-- What one step that reads the scope's word, or closes the scope, tells.
use Rattle.std.specs.Prelude.{◌≡◌, ℕ}
use Rattle.life_rules.specs.declared.scope.ScopeWord.{ScopeWord}
use Rattle.table_words.specs.ScopeNumbers.{scope_read}
use Rattle.table_steps.specs.Claims.{with_step, logged}
use Rattle.table_steps.specs.Seats.{Seated, homes_of, view_of}
use Rattle.table_steps.specs.ScopeSets.{closing}

module _ {P E : Type 0} where
  -- one load read this word, and the answer is what it says
  pub record Reads {A : Type 0} (says : ScopeWord → A) (answer : A) (m m' : Seated P E)
      : Type 0 where
    pub word : ℕ
    pub answer_is : answer ≡ says (scope_read word)
    pub me_is : m' ≡ (logged 0 word (view_of m), homes_of m)

  -- one step read a word, and left it with the closed bit set
  pub record Closes (m m' : Seated P E) : Type 0 where
    pub read : ℕ
    pub left : ℕ
    pub left_is : scope_read left ≡ closing (scope_read read)
    pub me_is : m' ≡ (with_step 0 read left (view_of m), homes_of m)
