-- A call's step of a scan is one move of the pure machine.
use Rattle.std.specs.Prelude.{ℕ, ◌<◌, true, ◌∷◌, Option}
use Rattle.life_rules.specs.declared.event.Name.{Name}
use Rattle.life_rules.specs.declared.event.Place.{Place}
use Rattle.life_rules.specs.declared.event.SourceAt.{SourceAt}
use Rattle.life_rules.specs.declared.event.SourceAt.TheVariants.{Scope as AtScope, At}
use Rattle.life_rules.specs.declared.event.SourceRef.{SourceRef}
use Rattle.life_rules.specs.declared.event.SourceRef.TheVariants.{Scope, Node}
use Rattle.life_rules.specs.declared.event.Event.TheVariants.{Run, Skip}
use Rattle.atomic_table.specs.declared.shared.Seat.{Seat}
use Rattle.table_rules.specs.declared.cargo.Cargo.{Ghosts}
use Rattle.table_rules.specs.declared.view.View.{View}
use Rattle.table_steps.specs.Views.{Board, knows}
use Rattle.table_steps.specs.Claims.{word_index}
use Rattle.table_steps.specs.Runs.{CanRun, HasRun, HasPassed, run_index, reads_on, last_of}
use Rattle.table_steps.specs.Skips.{CanSkip, IsSkipped}
use Rattle.table_moves.specs.Moves.{place_of, IsMove}

-- where the source is
abbrev pub source_at : SourceRef → SourceAt
source_at Scope = AtScope
source_at (Node x) = At (place_of x)

abbrev pub place_at : ℕ → ℕ → Place
place_at block node = record { block = block; node = node }

module _ {P E O : Type 0} (cargo : Ghosts P E O) where
  -- where an armed callback is run, after loads and exchanges that lost
  abbrev pub RunsByMove : Type 0
  RunsByMove =
      (board : Board O) (source : SourceRef) (block node : ℕ) (name : Name)
      (old new : Seat (Option P) (View P E)) →
      block < board.frame.layout.blocks → CanRun board.frame.tree (knows old) source block node →
      (did : HasRun board source block node name old new) →
      IsMove cargo board.frame old.id
      (reads_on (run_index board block node) (did.word ∷ did.tries) (knows old)) (knows new)
      (run_index board block node) (last_of did.word did.tries) did.left
      (Run (source_at source) (place_at block node))

  -- where the scan passes a place that isn't armed
  abbrev pub PassesByMove : Type 0
  PassesByMove =
      (board : Board O) (source : SourceRef) (block node : ℕ)
      (old new : Seat (Option P) (View P E)) →
      block < board.frame.layout.blocks → CanRun board.frame.tree (knows old) source block node →
      (did : HasPassed board source block node old new) →
      IsMove cargo board.frame old.id (reads_on (run_index board block node) did.words (knows old))
      (knows new)
      (run_index board block node) did.last did.last (Run (source_at source) (place_at block node))

  -- where it passes a block that was read as free
  abbrev pub SkipsByMove : Type 0
  SkipsByMove =
      (board : Board O) (block : ℕ) (old new : Seat (Option P) (View P E)) →
      block < board.frame.layout.blocks →
      CanSkip board.frame.tree (knows old) block → (did : IsSkipped board block true old new) →
      IsMove cargo board.frame old.id (knows old) (knows new) (word_index board block) did.word
      did.word (Skip block)
