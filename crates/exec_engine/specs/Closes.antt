-- How a run whose plan was opened ends.
use Rattle.std.specs.Prelude.{◌≡◌, ◌≢◌, ◌⊎◌, ◌≤◌, false, ℕ, List, [], Some, Result, IfOk, OnErr}
use Rattle.std.specs.declared.alloc.AllocError.{AllocError}
use Rattle.exec_io.specs.Causes.{Rose}
use Rattle.exec_value.specs.declared.outcome.Outcome.{Outcome}
use Rattle.plan_shape.specs.Blueprint.{Blueprint}
use Rattle.record_lines.specs.declared.ending.End.TheVariants.{Fault}
use Rattle.record_loop.specs.declared.ending.Ending.{Ending}
use Rattle.record_loop.specs.Printing.{Finished, HoldsAllBut}
use Rattle.whole_run.specs.declared.account.Account.{Account}
use Rattle.whole_run.specs.Endings.{IsUnbegun, Streams, begins}
use Rattle.line_rules.specs.Lawful.{Lawful}
use Rattle.line_rules.specs.PlanTerms.{window_of}
use Rattle.exec_status.specs.declared.status.Status.{Status}
use Rattle.exec_status.specs.declared.status.Status.TheVariants.{NoMemory}
use Rattle.exec_engine.specs.declared.tally.Tally.{Tally}
use Rattle.exec_engine.specs.declared.task.Task.{Task}
use Rattle.exec_engine.specs.Says.{terms_for, opening_for}
use Rattle.exec_engine.specs.Statuses.{status_of}
use Rattle.exec_engine.specs.Taken.{Takes, LeavesSource, OutCaughtUp}
use Rattle.exec_engine.specs.Tallies.{IsNew, IsTallyOf}
use Rattle.exec_engine.specs.Tasks.{form_for}

-- Records were taken until the end that the ending names, and their outcomes are lawful and
-- written. Where no write was lost, all was taken that was read, and a fault is the source's. No
-- record was begun after a lost write: those whose lines don't stand whole in out are a window at
-- most. The tally is that of the operations of these records.
pub record ClosesRun (plan : Blueprint) (task : Task) (before after : Streams) (ending : Ending)
    (tally : Tally) : Type 0 where
  pub outcomes : List Outcome
  pub records : List (List ℕ)
  pub rest : List ℕ
  pub takes : Takes task.origin plan.settings.input before.source after.source ending.end rest
      records
  pub all : ending.lost ≡ false → rest ≡ []
  pub lawful : Lawful (terms_for task plan) records outcomes
  pub finished : Finished (form_for task.origin) before.sink after.sink ending.summary ending.lost
      outcomes
  pub told : IsTallyOf plan (window_of plan task.window) outcomes tally
  pub begun : HoldsAllBut (window_of plan task.window) (form_for task.origin)
      before.sink after.sink outcomes
  pub cause : ending.end ≡ Fault → ending.lost ≡ false
      → Rose before.source.faults after.source.faults
  pub still : ending.end ≢ Fault → after.source.faults ≡ before.source.faults
  pub later : before.source.faults ≤ after.source.faults
  pub leaves : LeavesSource task.origin before after
  pub reads : OutCaughtUp task.origin
      (opening_for task plan told.closing.board.table_id before.sink) before after

-- There was no memory to begin with: nothing was read, written or counted.
pub record FindsNoMemory (before after : Streams) (tally : Tally) (status : Status) : Type 0 where
  pub is : status ≡ NoMemory
  pub unbegun : IsUnbegun before after
  pub uncounted : IsNew tally

-- A run found no memory to begin with, or ended so.
abbrev pub Runs : Blueprint → Task → Streams → Streams → Tally → Status → Type 0
Runs plan task before after tally status =
    FindsNoMemory before after tally status
    ⊎ ((ending : Ending) × ClosesRun plan task before after ending tally
    × (status ≡ status_of ending))

-- A tally that was new takes over this answer of a run, with this status.
pub record TakesOver (answer : Result Account AllocError) (old new : Tally) (status : Status)
    : Type 0 where
  pub before : IsNew old
  pub collected : IfOk answer (λ (a : Account). new.collected ≡ a.tally)
  pub closing : IfOk answer (λ (a : Account). new.closing ≡ Some a.closing)
  pub status_is : IfOk answer (λ (a : Account). status ≡ status_of a.ending)
  pub same : OnErr answer (new ≡ old)
  pub no_memory : OnErr answer (status ≡ NoMemory)

-- Whatever tally takes over this answer tells of the run.
abbrev pub AnswersRun : Blueprint → Task → Streams → Streams → Result Account AllocError
    → Type 0
AnswersRun plan task before after answer = (old new : Tally) (status : Status)
    → TakesOver answer old new status → Runs plan task before after new status
