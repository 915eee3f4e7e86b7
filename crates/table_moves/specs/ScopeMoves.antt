-- A call's step on the counting scope's word is one move of the pure machine.
use Rattle.std.specs.Prelude.{◌≡◌, true, Option, Ok}
use Rattle.life_rules.specs.declared.event.Event.TheVariants.{Enter, MarkUsed, Leave, Close, Join, Seal}
use Rattle.life_rules.specs.declared.scope.ScopeWord.{ScopeWord}
use Rattle.life_rules.specs.Scopes.{may_seal}
use Rattle.table_words.specs.ScopeNumbers.{scope_read}
use Rattle.atomic_table.specs.declared.shared.Seat.{Seat}
use Rattle.table_rules.specs.declared.cargo.Cargo.{Ghosts}
use Rattle.table_rules.specs.declared.view.View.{View}
use Rattle.table_steps.specs.Views.{Board, knows}
use Rattle.table_steps.specs.ScopeEntries.{MayEnter, IsEntered}
use Rattle.table_steps.specs.ScopeMoves.{IsMaking, MayLeaveScope, with_one_less, leaves_scope, MovesScope, as_used, makes, IsSealedAs}
use Rattle.table_steps.specs.ScopeSets.{SetsScope, closing, joining}
use Rattle.table_moves.specs.Moves.{IsMove}

module _ {P E O : Type 0} (cargo : Ghosts P E O) where
  -- where an association is entered
  abbrev pub EntersByMove : Type 0
  EntersByMove =
      (board : Board O) (answer : ScopeWord) (old new : Seat (Option P) (View P E)) →
      MayEnter (knows old) →
      (did : IsEntered board answer old new) →
      IsMove cargo board.frame old.id (knows old) (knows new) 0 did.read did.left Enter

  -- where it is made
  abbrev pub MakesByMove : Type 0
  MakesByMove =
      (board : Board O) (answer : ScopeWord) (old new : Seat (Option P) (View P E)) →
      IsMaking (knows old) → (did : MovesScope as_used makes answer old new) →
      IsMove cargo board.frame old.id (knows old) (knows new) 0 did.read did.left MarkUsed

  -- where one is left
  abbrev pub LeavesByMove : Type 0
  LeavesByMove =
      (board : Board O) (answer : ScopeWord) (old new : Seat (Option P) (View P E)) →
      MayLeaveScope (knows old) →
      (did : MovesScope with_one_less leaves_scope answer old new) →
      IsMove cargo board.frame old.id (knows old) (knows new) 0 did.read did.left Leave

  -- where the scope is closed
  abbrev pub ClosesByMove : Type 0
  ClosesByMove =
      (board : Board O) (answer : ScopeWord) (old new : Seat (Option P) (View P E)) →
      (did : SetsScope closing answer old new) →
      IsMove cargo board.frame old.id (knows old) (knows new) 0 did.read did.left Close

  -- where a join of it begins
  abbrev pub JoinsByMove : Type 0
  JoinsByMove =
      (board : Board O) (answer : ScopeWord) (old new : Seat (Option P) (View P E)) →
      (did : SetsScope joining answer old new) →
      IsMove cargo board.frame old.id (knows old) (knows new) 0 did.read did.left Join

  -- where it is sealed, by an exchange that found what was expected
  abbrev pub SealsByMove : Type 0
  SealsByMove =
      (board : Board O) (expected : ScopeWord) (old new : Seat (Option P) (View P E)) →
      may_seal expected ≡ true →
      (did : IsSealedAs expected (Ok tt) old new) → scope_read did.word ≡ expected →
      IsMove cargo board.frame old.id (knows old) (knows new) 0 did.word did.left (Seal expected)
