-- How an association is left (P3149, [exec.counting.scopes]).
use Rattle.std.specs.Prelude.{◌≡◌, ℕ, ◌-◌, ◌≤◌, Bool, true, false, not, ◌&&◌, ◌==◌, List, []}
use Rattle.life_rules.specs.declared.scope.ScopeWord.{ScopeWord}
use Rattle.table_words.specs.ScopeNumbers.{scope_read}
use Rattle.table_rules.specs.declared.view.View.{View}
use Rattle.table_steps.specs.Claims.{with_step}
use Rattle.table_steps.specs.Seats.{Seated, homes_of, view_of}
use Rattle.table_steps.specs.ScopeMoves.{with_one_less, leaves_scope}
use Rattle.table_steps.specs.ScopeEntries.{MayEnter}
use Rattle.count_scope.specs.Tries.{Sealed, AreTries}
use Rattle.count_scope.specs.Seals.{tried}

-- a leave that read this word left the last association of a scope that joins
abbrev pub is_last : ScopeWord → Bool
is_last w = w.count == 1 && (w.joining && not w.joined)

-- the word with no association
abbrev pub emptied : ScopeWord → ScopeWord
emptied w = record w { count = 0 }

-- the scope is sealed where that is asked, by tries that read these words, the newest of which left
-- the last; else there was none
abbrev pub SealsWhere : Bool → ScopeWord → List ℕ → ℕ → Type 0
SealsWhere true first words last = (answer : Sealed) × AreTries first answer words last
SealsWhere false first words last = words ≡ []

module _ {P E : Type 0} where
  -- the hand has an association, and none in the making or being refused
  pub record HasAssociation (v : View P E) : Type 0 where
    pub settled : MayEnter v
    pub one : 1 ≤ v.made

  -- the hand with one association less: one that is being refused goes first
  abbrev pub with_one_left : Seated P E → Seated P E
  with_one_left m = (leaves_scope (view_of m), homes_of m)

  -- the hand has one association less
  abbrev pub disassociated : Seated P E → Seated P E
  disassociated m = (record (view_of m) { made = (view_of m).made - 1 }, homes_of m)

  -- the leave read this word, and left one that counts one less. Where that left the last one of a
  -- scope that joins, the scope is sealed by tries that read these words
  pub record Leaves (m m' : Seated P E) : Type 0 where
    pub word : ℕ
    pub left : ℕ
    pub left_is : scope_read left ≡ with_one_less (scope_read word)
    pub words : List ℕ
    pub last : ℕ
    pub me_is : m' ≡ (tried words last (with_step 0 word left (view_of m)), homes_of m)
    pub seals : SealsWhere (is_last (scope_read word)) (emptied (scope_read word)) words last
