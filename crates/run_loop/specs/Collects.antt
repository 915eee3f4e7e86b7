-- How the loop collects an operation ([exec.recv]).
use Rattle.std.specs.Prelude.{◌≡◌, Some}
use Rattle.plan_shape.specs.Blueprint.{Blueprint}
use Rattle.table_rules.specs.declared.view.Rooted.{Rooted}
use Rattle.table_steps.specs.declared.block.Block.{Block}
use Rattle.table_steps.specs.Views.{Board, knows}
use Rattle.table_steps.specs.Claims.{root_name}
use Rattle.table_steps.specs.Slots.{noted_at}
use Rattle.home_items.specs.declared.entry.Entry.{Entry}
use Rattle.exec_recv.specs.Asides.{aside_of}
use Rattle.node_walks.specs.declared.completing.Collected.{Collected}
use Rattle.node_walks.specs.Completes.{IsFor}
use Rattle.node_walks.specs.Emptied.{with_released, MovesAndGivesBack, WasNotReady}
use Rattle.node_walks.specs.Leaves.{LeavesAside}
use Rattle.run_loop.specs.declared.looped.Loop.{Loop as Looped}
use Rattle.run_loop.specs.Loops.{KeepsDelays, Raises}

-- The operation was collected, and its block given back, from which the next search for a free one
-- begins. Beside the words of the block none was moved.
pub record Collects (board : Board Blueprint) (b : Block) (old new : Looped)
    (c : Collected) : Type 0 where
  pub is_for : (e : Rooted Entry) →
      noted_at (knows old.hand) (root_name board b.index b.generation) ≡ Some e →
      IsFor e.start (knows old.hand).requested c
  pub leaves : LeavesAside
      (with_released (root_name board b.index b.generation) (aside_of (knows old.hand))) old.hand.me
      new.hand.me
  pub moves : MovesAndGivesBack board b old.hand.me new.hand.me
  pub next : new.next ≡ b.index
  pub helps : new.helps ≡ old.helps
  pub names : new.names ≡ old.names
  pub delays : KeepsDelays old new
  pub tally : Raises board c old.tally new.tally

-- The root wasn't ready in the loop, and nothing changed.
pub record CollectsNothing (board : Board Blueprint) (b : Block) (old new : Looped) : Type 0 where
  pub read : WasNotReady board b old.hand.me new.hand.me
  pub rest : new ≡ record old { hand = new.hand }
