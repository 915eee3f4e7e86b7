-- What commands ask of a run.
use Rattle.std.specs.Prelude.{ℕ, ◌<◌, ◌≤◌, Bool, true, false, List}
use Rattle.std.specs.Borrow.{Bor}
use Rattle.exec_words.specs.declared.command.Options.{Options}
use Rattle.exec_words.specs.declared.command.Order.{Order as WordsOrder}
use Rattle.exec_words.specs.declared.command.Order.TheVariants.{Fifo as WordsFifo, Lifo as WordsLifo}
use Rattle.exec_words.specs.declared.number.TheConstants.{MOST_WORKERS, MOST_WINDOW, MOST_GENERATED}
use Rattle.pool_backends.specs.declared.order.Order.{Order}
use Rattle.pool_backends.specs.declared.order.Order.TheVariants.{Fifo, Lifo}
use Rattle.record_loop.specs.declared.printer.Form.{Form}
use Rattle.record_loop.specs.declared.printer.Form.TheVariants.{Lines, Summary}
use Rattle.exec_engine.specs.declared.task.Origin.{Origin}
use Rattle.exec_engine.specs.declared.task.Origin.TheVariants.{Source, Generated}
use Rattle.exec_engine.specs.declared.task.Task.{Task}

-- What is written of a run: one line for all, where the words ask for the summary.
abbrev pub form_of : Bool → Form
form_of true = Summary
form_of false = Lines

-- The order of a backend that the words name.
abbrev pub order_of : WordsOrder → Order
order_of WordsFifo = Fifo
order_of WordsLifo = Lifo

-- A plan of this name, run by these options over records that come from there.
abbrev pub task_of : Bor (List ℕ) → Options → Origin → Task
task_of plan options origin = record {
  plan = plan;
  workers = options.workers;
  window = options.window;
  order = order_of options.order;
  origin = origin;
}

-- What `run` asks for, and what `gen` does.
abbrev pub run_task : Bor (List ℕ) → Options → Bool → Task
run_task plan options summary = task_of plan options (Source (form_of summary))

abbrev pub gen_task : Bor (List ℕ) → ℕ → Options → Task
gen_task plan count options = task_of plan options (Generated count)

-- What is written of the outcomes of these records: of generated ones the summary.
abbrev pub form_for : Origin → Form
form_for (Source form) = form
form_for (Generated count) = Summary

-- Generated records are no more than words ask for.
abbrev pub IsFew : Origin → Type 0
IsFew (Source form) = Unit {0}
IsFew (Generated count) = count ≤ MOST_GENERATED

-- A task is as words ask for one: there aren't too many workers, and some records are worked on at
-- once, and not too many.
pub record IsBounded (task : Task) : Type 0 where
  pub workers : task.workers ≤ MOST_WORKERS
  pub some : 0 < task.window
  pub most : task.window ≤ MOST_WINDOW
  pub few : IsFew task.origin
