-- How a run begins.
use Rattle.std.specs.Prelude.{◌≡◌, ℕ, true, false, Option, None, length, replicate}
use Rattle.atomic_table.specs.declared.shared.Seat.{Seat}
use Rattle.plan_shape.specs.Blueprint.{Blueprint}
use Rattle.record_loop.specs.Works.{IsIdle}
use Rattle.table_rules.specs.declared.view.View.{View}
use Rattle.table_steps.specs.Closings.{HasNothing}
use Rattle.table_steps.specs.Views.{Board, IsHandOf, knows}
use Rattle.home_items.specs.declared.entry.Entry.{Entry}
use Rattle.home_items.specs.declared.item.Item.{Item}
use Rattle.spawn_future.specs.Slots.{kept_in}
use Rattle.record_operations.specs.Runs.{Run, work_of}
use Rattle.line_rules.specs.PlanTerms.{has_ahead}

-- Hand 0 of the table, which has nothing, made no request, and gave back each block that it
-- claimed.
pub record IsUnusedHand (board : Board Blueprint) (hand : Seat (Option Item) (View Item Entry))
    : Type 0 where
  pub hand_of : IsHandOf board hand
  pub first : (knows hand).number ≡ 0
  pub nothing : HasNothing (knows hand)
  pub unasked : (knows hand).requested ≡ false
  pub even : (knows hand).claimed ≡ (knows hand).released

-- A run over this table and plan, with so many tickets, all free: no stop was requested, no
-- operation collected, and no future is kept. Where the plan has an `ahead` there is room for 64 of
-- them.
pub record IsOpened (board : Board Blueprint) (plan : Blueprint) (tickets : ℕ) (run : Run)
    : Type 0 where
  pub board_is : run.board ≡ board
  pub plan_is : run.plan ≡ plan
  pub free : run.operations ≡ replicate tickets None
  pub idle : IsIdle (work_of run)
  pub none : kept_in run.futures ≡ 0
  pub room : has_ahead plan ≡ true → length run.futures ≡ 64
