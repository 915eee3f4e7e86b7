-- What each step does to its hand, by the table and the node.
use Rattle.std.specs.Prelude.{ℕ, List, length, Option}
use Rattle.life_rules.specs.declared.words.ControlWord.TheVariants.{Idle, Busy, Done}
use Rattle.life_rules.specs.declared.event.Name.{Name}
use Rattle.life_rules.specs.declared.event.Resting.{Resting}
use Rattle.life_rules.specs.Words.{resting_at}
use Rattle.table_words.specs.Layouts.{OfControl, index}
use Rattle.atomic_table.specs.declared.shared.Seat.{Seat}
use Rattle.table_rules.specs.declared.cargo.Cargo.{Ghosts}
use Rattle.table_rules.specs.declared.view.View.{View}
use Rattle.table_steps.specs.Views.{Board, aim_at}
use Rattle.table_steps.specs.Claims.{root_name}
use Rattle.table_steps.specs.Lefts.{LeavesControl}
use Rattle.table_steps.specs.Begins.{BeginsAt, IsRenewed, Begins}
use Rattle.table_steps.specs.Rests.{RestsAt}
use Rattle.table_steps.specs.Finishes.{FinishesAt}
use Rattle.table_steps.specs.Awaits.{AwaitsAt}
use Rattle.table_steps.specs.Releases.{LeavesBlock, LeftEmpty, word_after}

-- the index of the node's control word
abbrev pub control_index : {O : Type 0} → Board O → Name → ℕ
control_index board x = index board.frame.layout (OfControl x.block x.node)

module _ {P E O : Type 0} (board : Board O) (x : Name) (old new : Seat (Option P) (View P E)) where
  abbrev pub Renewed : Type 0
  Renewed = IsRenewed (aim_at board x) old.me new.me

  -- the node was idle, and is held, by the word that was written
  abbrev pub Held : Ghosts P E O → Type 0
  Held cargo = LeavesControl (aim_at board x) Idle (Busy 0)
      (BeginsAt cargo (aim_at board x)) old.me new.me

  abbrev pub Begun : Ghosts P E O → Type 0
  Begun cargo = Begins cargo (aim_at board x) old.me new.me

  -- the node was held, and rests there
  abbrev pub Rested : Resting → Type 0
  Rested to = LeavesControl (aim_at board x) (Busy 0) (resting_at to)
      (RestsAt (aim_at board x)) old.me new.me

  -- the node was held, and is done
  abbrev pub Finished : Ghosts P E O → Type 0
  Finished cargo = LeavesControl (aim_at board x) (Busy 0) Done
      (FinishesAt cargo (aim_at board x)) old.me new.me

  -- the node was held, and waits for as many children as are named
  abbrev pub Awaited : Ghosts P E O → List ℕ → Type 0
  Awaited cargo nodes =
      LeavesControl (aim_at board x) (Busy 0) (Busy (length nodes))
      (AwaitsAt cargo (aim_at board x) nodes) old.me new.me

-- the block's root was given back: the block is free at the next generation, or retired after the
-- last
abbrev pub Released : {P E O : Type 0} → Board O → ℕ → ℕ → Seat (Option P) (View P E) →
    Seat (Option P) (View P E) → Type 0
Released board block generation old new =
    LeavesBlock (aim_at board (root_name board block generation))
    (word_after generation) old.me new.me

-- in the table that the step left all homes of the block are empty
abbrev pub LeftAllEmpty : {P E O : Type 0} → Board O → ℕ → ℕ → Seat (Option P) (View P E) →
    Ghosts P E O → Type 0
LeftAllEmpty board block generation new cargo =
    LeftEmpty cargo board.frame new.id block (word_after generation) new.me
