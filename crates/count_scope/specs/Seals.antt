-- What a seal tells the hand.
use Rattle.std.specs.Prelude.{◌≡◌, ℕ, List, [], ◌∷◌}
use Rattle.life_rules.specs.declared.scope.ScopeWord.{ScopeWord}
use Rattle.table_words.specs.ScopeNumbers.{scope_read}
use Rattle.listed_words.specs.declared.seen.Seen.{Seen}
use Rattle.listed_words.specs.Lists.{entry}
use Rattle.table_rules.specs.declared.view.View.{View}
use Rattle.table_rules.specs.Grown.{HasBitsOf}
use Rattle.table_steps.specs.Claims.{with_step}
use Rattle.table_steps.specs.Seats.{Seated, homes_of, view_of}
use Rattle.count_scope.specs.Tries.{Sealed, AreTries}

-- the hand's newest step was on the scope's word, and left a word with the bits of this one
pub record IsFresh (w : ScopeWord) (steps : List Seen) : Type 0 where
  pub read : ℕ
  pub left : ℕ
  pub older : List Seen
  pub steps_are : steps ≡ entry 0 read left ∷ older
  pub bits : HasBitsOf w (scope_read left)

-- the list of steps after steps on the scope's word that read these words, and left them so
abbrev pub seen_after : List ℕ → List Seen → List Seen
seen_after [] steps = steps
seen_after (word ∷ words) steps = entry 0 word word ∷ seen_after words steps

module _ {P E : Type 0} where
  -- the view lists these steps, and is as before else
  abbrev pub listed : List ℕ → View P E → View P E
  listed words v = record v { steps = seen_after words v.steps }

  -- the view lists tries that read these words, the newest of which left this, and is as before
  -- else
  abbrev pub tried : List ℕ → ℕ → View P E → View P E
  tried [] left v = v
  tried (last ∷ before) left v = with_step 0 last left (listed before v)

  -- the tries read these words, and changed nothing else of what the hand knows
  pub record Seals (first : ScopeWord) (answer : Sealed) (m m' : Seated P E) : Type 0 where
    pub words : List ℕ
    pub left : ℕ
    pub me_is : m' ≡ (tried words left (view_of m), homes_of m)
    pub tries : AreTries first answer words left
