-- What the steps that set a bit of the counting scope's word tell the hand (P3149, [exec.scope]).
use Rattle.std.specs.Prelude.{true, Option}
use Rattle.life_rules.specs.declared.scope.ScopeWord.{ScopeWord}
use Rattle.atomic_table.specs.declared.shared.Seat.{Seat}
use Rattle.table_rules.specs.declared.view.View.{View}
use Rattle.table_steps.specs.ScopeMoves.{MovesScope}

-- the word with the closed bit set
abbrev pub closing : ScopeWord → ScopeWord
closing w = record w { closed = true }

-- the word with the joining bit set
abbrev pub joining : ScopeWord → ScopeWord
joining w = record w { joining = true }

-- the step read this word, which is answered, and left it with the bit set
abbrev pub SetsScope : {P E : Type 0} → (ScopeWord → ScopeWord) → ScopeWord →
    Seat (Option P) (View P E) → Seat (Option P) (View P E) → Type 0
SetsScope sets answer old new = MovesScope sets (λ v. v) answer old new
