-- What a call of `run` collected, how the table of its operations was closed, and which backends
-- its workers had.
use Rattle.std.specs.Prelude.{◌≡◌, ℕ, ◌≤◌, List, [], Option, None, Some, ⊤, count_by}
use Rattle.home_items.specs.declared.entry.Entry.{Entry}
use Rattle.home_items.specs.declared.item.Item.{Item}
use Rattle.exec_value.specs.declared.outcome.Outcome.{Outcome}
use Rattle.outcome_lines.specs.Summary.{is_value, is_error, is_stopped, is_out_of_memory}
use Rattle.exec_words.specs.declared.number.TheConstants.{MOST_WORKERS}
use Rattle.plan_shape.specs.Blueprint.{Blueprint}
use Rattle.steal_pool.specs.Arrangements.{HasGiven}
use Rattle.steal_pool.specs.declared.given.Given.{Given}
use Rattle.record_loop.specs.Tallies.{IsToldBy}
use Rattle.whole_run.specs.Accounts.{IsClosedFor}
use Rattle.run_tally.specs.Gathered.{values_in, errors_in, stopped_in, no_memory_in}
use Rattle.table_steps.specs.Closings.{ClosedTable}
use Rattle.exec_engine.specs.declared.tally.Tally.{Tally}
use Rattle.exec_engine.specs.declared.task.Task.{Task}

-- Nothing was collected, no table was opened, and no backend was given out.
pub record IsNew (tally : Tally) : Type 0 where
  pub none : tally.collected ≡ []
  pub unopened : tally.closing ≡ None
  pub ungiven : tally.given ≡ None

-- Of the backends that `run` was handed one was given out to each worker, at most as many as the
-- task asks for, and each was arranged in its order.
pub record IsInOrder (task : Task) (told : Given) : Type 0 where
  pub workers : ℕ
  pub few : workers ≤ task.workers
  pub given : HasGiven task.order MOST_WORKERS workers told

-- So they were where a table was opened, and else none was.
abbrev pub AreInOrder : Task → Option (ClosedTable Item Entry Blueprint) → Option Given → Type 0
AreInOrder task (Some closing) (Some told) = IsInOrder task told
AreInOrder task (Some closing) None = ⊥
AreInOrder task None (Some told) = ⊥
AreInOrder task None None = ⊤

-- A table was opened over the plan, with a block for each record that is worked on at once, and for
-- each that an `ahead` may spawn. It was closed with its scope joined and each block given back,
-- and its hands claimed a block for each operation that was collected, and for each that an `ahead`
-- spawned, and no other.
--
-- For each outcome that is a completion one operation of the plan was collected from that table,
-- which completed so for the record of this number; or none, where it is want of memory, which the
-- record met before its operation was begun. No others were collected. So as many operations
-- completed with a value, with an error and stopped as there are such outcomes, and no more with
-- want of memory.
pub record IsTallyOf (plan : Blueprint) (window : ℕ) (outcomes : List Outcome) (tally : Tally)
    : Type 0 where
  pub closing : ClosedTable Item Entry Blueprint
  pub is : tally.closing ≡ Some closing
  pub closed : IsClosedFor plan window tally.collected closing
  pub lines : IsToldBy plan closing.board.table_id outcomes tally.collected
  pub values : values_in tally.collected ≡ count_by is_value outcomes
  pub errors : errors_in tally.collected ≡ count_by is_error outcomes
  pub stopped : stopped_in tally.collected ≡ count_by is_stopped outcomes
  pub no_memory : no_memory_in tally.collected ≤ count_by is_out_of_memory outcomes
