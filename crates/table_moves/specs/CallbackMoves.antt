-- A call's step on a callback's word is one move of the pure machine.
use Rattle.std.specs.Prelude.{Option}
use Rattle.life_rules.specs.declared.words.CallbackPhase.{CallbackPhase}
use Rattle.life_rules.specs.declared.event.Name.{Name}
use Rattle.life_rules.specs.declared.event.Event.TheVariants.{Arm, EndRun, Withdraw, WithdrawOwn}
use Rattle.atomic_table.specs.declared.shared.Seat.{Seat}
use Rattle.table_rules.specs.declared.cargo.Cargo.{Ghosts}
use Rattle.table_rules.specs.declared.view.View.{View}
use Rattle.table_steps.specs.Views.{Board, knows}
use Rattle.table_steps.specs.Callbacks.{callback_index, left_by, CanArm, IsArmed, CanWithdraw, IsWithdrawn}
use Rattle.table_steps.specs.RunEnds.{CanEndRun, CanWithdrawOwn, IsRunEnded, IsOwnWithdrawn}
use Rattle.table_moves.specs.Moves.{place_of, IsMove}

module _ {P E O : Type 0} (cargo : Ghosts P E O) where
  -- where a callback is registered
  abbrev pub ArmsByMove : Type 0
  ArmsByMove =
      (board : Board O) (x : Name) (old new : Seat (Option P) (View P E)) →
      CanArm board.frame.tree (knows old) x →
      (did : IsArmed board x old new) →
      IsMove cargo board.frame old.id (knows old) (knows new) (callback_index board x) did.read
      did.left (Arm (place_of x))

  -- where its run ends
  abbrev pub EndsRunByMove : Type 0
  EndsRunByMove =
      (board : Board O) (x : Name) (old new : Seat (Option P) (View P E)) →
      CanEndRun (knows old) x →
      (did : IsRunEnded board x old new) →
      IsMove cargo board.frame old.id (knows old) (knows new) (callback_index board x) did.read
      did.left (EndRun (place_of x))

  -- where it is removed from outside its run, or was found running or done
  abbrev pub WithdrawsByMove : Type 0
  WithdrawsByMove =
      (board : Board O) (x : Name) (answer : CallbackPhase) (old new : Seat (Option P) (View P E))
      → CanWithdraw (knows old) x →
      (did : IsWithdrawn board x answer old new) →
      IsMove cargo board.frame old.id (knows old) (knows new) (callback_index board x) did.word
      (left_by x.generation did.word)
      (Withdraw (place_of x))

  -- where it is removed from inside its run
  abbrev pub WithdrawsOwnByMove : Type 0
  WithdrawsOwnByMove =
      (board : Board O) (x : Name) (old new : Seat (Option P) (View P E)) →
      CanWithdrawOwn (knows old) x →
      (did : IsOwnWithdrawn board x old new) →
      IsMove cargo board.frame old.id (knows old) (knows new) (callback_index board x) did.read
      did.left (WithdrawOwn (place_of x))
