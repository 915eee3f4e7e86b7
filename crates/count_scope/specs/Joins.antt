-- How the join of a scope starts (P3149, [exec.counting.scopes]).
use Rattle.std.specs.Prelude.{◌≡◌, ℕ, true, if◌then◌else◌, Bool, false, List, [], Ok, Err}
use Rattle.life_rules.specs.declared.scope.ScopeWord.{ScopeWord}
use Rattle.life_rules.specs.Scopes.{may_seal}
use Rattle.table_words.specs.ScopeNumbers.{scope_read}
use Rattle.table_steps.specs.Claims.{with_step}
use Rattle.table_steps.specs.Seats.{Seated, homes_of, view_of}
use Rattle.table_steps.specs.ScopeSets.{joining}
use Rattle.count_scope.specs.declared.joining.JoinStart.{JoinStart}
use Rattle.count_scope.specs.declared.joining.JoinStart.TheVariants.{Joined, Waiting}
use Rattle.count_scope.specs.Tries.{Sealed, AreTries}
use Rattle.count_scope.specs.Seals.{tried}

-- what the join answers by a word that asks no seal
abbrev pub start_of : ScopeWord → JoinStart
start_of w = if w.joined then Joined else Waiting

-- what it answers by how the seal ended: joined where a try sealed
abbrev pub start_after : Sealed → JoinStart
start_after (Ok _) = Joined
start_after (Err read) = start_of read

-- where the join left a word that may be sealed, it is sealed by tries that read these words, the
-- newest of which left the last
abbrev pub StartsWhere : Bool → ScopeWord → List ℕ → ℕ → JoinStart → Type 0
StartsWhere true first words last answer =
    (sealed : Sealed) × AreTries first sealed words last × (answer ≡ start_after sealed)
StartsWhere false first words last answer = (words ≡ []) × (answer ≡ start_of first)

-- the join read a word, and left it with the joining bit set
pub record Starts {P E : Type 0} (answer : JoinStart) (m m' : Seated P E) : Type 0 where
  pub read : ℕ
  pub left : ℕ
  pub left_is : scope_read left ≡ joining (scope_read read)
  pub words : List ℕ
  pub last : ℕ
  pub me_is : m' ≡ (tried words last (with_step 0 read left (view_of m)), homes_of m)
  pub starts : StartsWhere (may_seal (scope_read left)) (scope_read left) words last answer
