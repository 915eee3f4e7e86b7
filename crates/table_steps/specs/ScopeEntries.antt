-- What a hand needs to enter the counting scope (P3149, [exec.scope]), and what that tells it.
use Rattle.std.specs.Prelude.{◌≡◌, ℕ, ◌+◌, if◌then◌else◌, Option}
use Rattle.life_rules.specs.declared.scope.ScopeWord.{ScopeWord}
use Rattle.life_rules.specs.Scopes.{is_refused}
use Rattle.atomic_table.specs.declared.shared.Seat.{Seat}
use Rattle.table_rules.specs.declared.view.View.{View}
use Rattle.table_steps.specs.Views.{Board}
use Rattle.table_steps.specs.ScopeMoves.{MovesScope, with_one_more}

module _ {P E : Type 0} where
  -- the hand has no association in the making or being refused
  abbrev pub MayEnter : View P E → Type 0
  MayEnter v = v.making + v.refused ≡ 0

  -- by the word that was read, an association is being refused; or it is made, where the scope was
  -- used before; else it is in the making
  abbrev pub enters : ℕ → ScopeWord → View P E → View P E
  enters most word v =
      if is_refused word most then record v { refused = v.refused + 1 } else (
      if word.used then record v { made = v.made + 1 } else record v { making = v.making + 1 })

abbrev pub IsEntered : {P E O : Type 0} → Board O → ScopeWord → Seat (Option P) (View P E) →
    Seat (Option P) (View P E) → Type 0
IsEntered board answer old new = MovesScope with_one_more
    (enters board.frame.most answer) answer old new
