-- A table that was opened for a run, and the hands that a run gives back.
use Rattle.std.specs.Prelude.{◌≡◌, ◌+◌, ◌-◌, ◌<◌, ◌≤◌, ℕ, List, All, Option, length, min}
use Rattle.atomic_table.specs.declared.shared.Seat.{Seat}
use Rattle.exec_recv.specs.Over.{IsOver}
use Rattle.home_items.specs.declared.entry.Entry.{Entry}
use Rattle.home_items.specs.declared.item.Item.{Item}
use Rattle.life_rules.specs.declared.limits.TheConstants.{MOST_BLOCKS}
use Rattle.life_rules.specs.declared.scope.ScopeState.TheVariants.{Joined}
use Rattle.plan_kinds.specs.Runnable.{IsRunnable}
use Rattle.plan_shape.specs.Blueprint.{Blueprint}
use Rattle.run_workers.specs.Crews.{IsSpare}
use Rattle.line_rules.specs.PlanTerms.{MayRun, window_of}
use Rattle.table_rules.specs.Named.{AnyOf}
use Rattle.table_rules.specs.declared.view.View.{View}
use Rattle.table_steps.specs.Closings.{LeavesScope, steps_of}
use Rattle.table_steps.specs.Views.{AreFreshHands, Board, IsHandOf, fresh_with, knows}
use Rattle.whole_run.specs.Desks.{CanClose, HasDesks}
use Rattle.whole_run.specs.declared.opened.Opened.{Opened}

-- Blocks beside those of the records that are worked on at once, for what an `ahead` spawns: as
-- many as the greatest window of the plan leaves. A plan without one has none.
abbrev pub spare_blocks : Blueprint → ℕ
spare_blocks plan = MOST_BLOCKS - window_of plan MOST_BLOCKS

-- How many blocks the table of a run with this window has: no more than a table may have.
abbrev pub blocks_for : Blueprint → ℕ → ℕ
blocks_for plan window = min (window + spare_blocks plan) MOST_BLOCKS

-- The table is over the plan, with the blocks of a run with this window. Its scope is of the plan's
-- kind, and takes as many associations.
pub record IsTableFor (plan : Blueprint) (window : ℕ) (board : Board Blueprint) : Type 0 where
  pub over : IsOver board plan
  pub kind : board.frame.kind ≡ plan.settings.scope
  pub blocks_are : board.frame.layout.blocks ≡ blocks_for plan window
  pub most_is : board.frame.most ≡ blocks_for plan window
  pub some : 0 < window
  pub few : window ≤ MOST_BLOCKS

-- So it was opened, with a hand for each worker and one more. They have done nothing. Its desks,
-- for as many, can be closed.
pub record IsOpenedFor (plan : Blueprint) (window workers : ℕ) (opened : Opened) : Type 0 where
  pub for : IsTableFor plan window opened.table
  pub count : opened.table.frame.hands ≡ workers + 1
  pub hands : AreFreshHands opened.table (workers + 1) opened.hands.items
  pub desks : CanClose opened.room opened.desks.items
  pub seats : HasDesks workers opened.room opened.desks.items

-- A plan may be run with this window on a table that is for it, by what steps this plan's nodes.
pub record CanRunOn (board : Board Blueprint) (plan : Blueprint) (window : ℕ) (stepped : Blueprint)
    : Type 0 where
  pub for : IsTableFor plan window board
  pub kinds : IsRunnable plan
  pub may_run : MayRun plan.settings
  pub stepper : stepped ≡ plan

-- The hand is hand 0 of the table, and has done nothing.
pub record IsFreshHand (board : Board Blueprint) (hand : Seat (Option Item) (View Item Entry))
    : Type 0 where
  pub hand_of : IsHandOf board hand
  pub fresh : knows hand ≡ fresh_with 0 (knows hand).splits

-- All hands of the table are back after a run. Each is spare, and a step of one of them left the
-- scope joined.
pub record AreBack (board : Board Blueprint)
    (hands : List (Seat (Option Item) (View Item Entry))) : Type 0 where
  pub count : length hands ≡ board.frame.hands
  pub each : All (IsSpare board) hands
  pub joined : AnyOf (LeavesScope Joined) (steps_of hands)
