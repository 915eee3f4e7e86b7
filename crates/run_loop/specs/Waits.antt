-- What waiting for one operation comes to ([exec.sync.wait]).
use Rattle.std.specs.Prelude.{◌≡◌, ◌+◌, ⊤, ℕ, zero, suc, List, Some}
use Rattle.plan_shape.specs.Blueprint.{Blueprint}
use Rattle.table_rules.specs.declared.view.Rooted.{Rooted}
use Rattle.table_steps.specs.declared.block.Block.{Block}
use Rattle.table_steps.specs.Views.{Board, knows}
use Rattle.table_steps.specs.Claims.{root_name}
use Rattle.table_steps.specs.Slots.{noted_at}
use Rattle.home_items.specs.declared.entry.Entry.{Entry}
use Rattle.exec_recv.specs.Asides.{Aside, aside_of}
use Rattle.exec_recv.specs.Sites.{Does}
use Rattle.node_walks.specs.declared.completing.Collected.{Collected}
use Rattle.run_loop.specs.declared.looped.Loop.{Loop as Looped}
use Rattle.run_loop.specs.declared.waiting.Waited.{Waited}
use Rattle.run_loop.specs.declared.waiting.Waited.TheVariants.{Completed, NoBlock}
use Rattle.node_walks.specs.Completes.{IsFor}
use Rattle.node_walks.specs.Emptied.{with_released}
use Rattle.node_walks.specs.Leaves.{LeavesAside}
use Rattle.run_loop.specs.Collects.{Collects, CollectsNothing}
use Rattle.run_loop.specs.Delayed.{HasTurned, TakesSoMany}
use Rattle.run_loop.specs.Loops.{KeepsCounts, Raises}
use Rattle.run_loop.specs.Starts.{FindsNoBlock, WentOn}
use Rattle.run_loop.specs.Turns.{FindsNothing, MeetsAll}

-- The loop collected one operation more, which completed so. It helps as before.
pub record CountsOne (board : Board Blueprint) (old new : Looped) (c : Collected) : Type 0 where
  pub helps : new.helps ≡ old.helps
  pub tally : Raises board c old.tally new.tally

-- The operation in the block was collected, for the start that the hand noted of its root.
pub record IsCollected (board : Board Blueprint) (b : Block) (old new : Looped)
    (c : Collected) : Type 0 where
  pub is_for : (e : Rooted Entry) →
      noted_at (knows old.hand) (root_name board b.index b.generation) ≡ Some e →
      IsFor e.start (knows old.hand).requested c
  pub leaves : LeavesAside
      (with_released (root_name board b.index b.generation) (aside_of (knows old.hand))) old.hand.me
      new.hand.me
  pub counts : CountsOne board old new c

-- One turn, as `turn` tells of it.
pub record TurnsOnce (does : Does) (board : Board Blueprint) (old new : Looped) : Type 0 where
  pub count : ℕ
  pub served : TakesSoMany does board count old new
  pub met : MeetsAll does board old new
  pub turn : HasTurned board count old new
  pub none : count ≡ 0 → FindsNothing board old new

module _ (does : Does) (board : Board Blueprint) (b : Block) where
  -- After this the operation in the block was found not to be complete, and a turn came.
  pub record TurnsAfter (Before : Looped → Type 0) (new : Looped) : Type 0 where
    pub between : Looped
    pub before : Before between
    pub looked : Looped
    pub none : CollectsNothing board b between looked
    pub turns : TurnsOnce does board looked new

  -- So many times it was. Nothing else was done.
  abbrev pub TurnsMany : ℕ → Looped → Looped → Type 0
  TurnsMany zero old new = new ≡ old
  TurnsMany (suc count) old new = TurnsAfter (λ between. TurnsMany count old between) new

  -- And then it was collected.
  pub record TurnsUntil (old new : Looped) (c : Collected) : Type 0 where
    pub count : ℕ
    pub last : Looped
    pub turns : TurnsMany count old last
    pub collects : Collects board b last new c

-- One block was claimed, and given back.
abbrev pub with_block_used : Aside → Aside
with_block_used aside = record aside { claimed = aside.claimed + 1; released = aside.released + 1 }

-- An operation with this start was run, and completed so.
pub record HasRun (board : Board Blueprint) (start : List Entry) (old new : Looped)
    (c : Collected) : Type 0 where
  pub is_for : IsFor start (knows old.hand).requested c
  pub leaves : LeavesAside (with_block_used (aside_of (knows old.hand))) old.hand.me new.hand.me
  pub counts : CountsOne board old new c

-- It was started, and the loop turned until it was collected. Nothing else was done.
pub record OnlyRuns (does : Does) (board : Board Blueprint) (start : List Entry) (old new : Looped)
    (c : Collected) : Type 0 where
  pub block : Block
  pub begun : Looped
  pub first : WentOn does board block start old begun
  pub until : TurnsUntil does board block begun new c

-- So it was where it completed.
abbrev pub OnlyWaits : Does → Board Blueprint → List Entry → Looped → Looped → Waited → Type 0
OnlyWaits does board start old new (Completed c) = OnlyRuns does board start old new c
OnlyWaits does board start old new (NoBlock back) = ⊤

-- No block was free for it, and its start comes back.
pub record FoundNoBlock (board : Board Blueprint) (start : List Entry) (old new : Looped)
    (back : List Entry) : Type 0 where
  pub back_is : back ≡ start
  pub none : FindsNoBlock board old new
  pub counts : KeepsCounts old new

-- The one or the other.
abbrev pub Waits : Board Blueprint → List Entry → Looped → Looped → Waited → Type 0
Waits board start old new (Completed c) = HasRun board start old new c
Waits board start old new (NoBlock back) = FoundNoBlock board start old new back
