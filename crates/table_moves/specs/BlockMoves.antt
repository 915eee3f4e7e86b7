-- A call's step on a block's word is one move of the pure machine.
use Rattle.std.specs.Prelude.{ℕ, ◌<◌, Option}
use Rattle.life_rules.specs.declared.event.Event.TheVariants.{Claim, Release}
use Rattle.atomic_table.specs.declared.shared.Seat.{Seat}
use Rattle.table_rules.specs.declared.cargo.Cargo.{Ghosts}
use Rattle.table_rules.specs.declared.view.View.{View}
use Rattle.table_steps.specs.declared.block.Block.{Block}
use Rattle.table_steps.specs.Views.{Board, IsHandOf, knows}
use Rattle.table_steps.specs.Claims.{word_index, logged, Claimed}
use Rattle.table_steps.specs.Releases.{CanReleaseBlock}
use Rattle.table_steps.specs.Steps.{Released}
use Rattle.table_moves.specs.Moves.{IsMove}

module _ {P E O : Type 0} (cargo : Ghosts P E O) where
  -- where a block is claimed, after a load that read it as free
  abbrev pub ClaimsByMove : Type 0
  ClaimsByMove =
      (board : Board O) (block : ℕ) (b : Block) (old new : Seat (Option P) (View P E)) →
      block < board.frame.layout.blocks →
      (did : Claimed board block b old new) →
      IsMove cargo board.frame old.id (logged (word_index board block) did.word (knows old))
      (knows new) (word_index board block)
      did.word did.left (Claim block)

  -- where it is given back
  abbrev pub ReleasesByMove : Type 0
  ReleasesByMove =
      (board : Board O) (block generation : ℕ) (old new : Seat (Option P) (View P E)) →
      IsHandOf board old →
      CanReleaseBlock board.frame block generation old.me →
      (did : Released board block generation old new) →
      IsMove cargo board.frame old.id (knows old) (knows new) (word_index board block) did.read
      did.left (Release block)
