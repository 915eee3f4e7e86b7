-- What a run over records has read, and what it wrote.
use Rattle.std.specs.Prelude.{◌≡◌, ℕ, List, []}
use Rattle.exec_io.specs.Causes.{Rose}
use Rattle.exec_value.specs.declared.outcome.Outcome.{Outcome}
use Rattle.plan_shape.specs.Blueprint.{Blueprint}
use Rattle.record_lines.specs.declared.ending.End.TheVariants.{Fault}
use Rattle.record_lines.specs.Records.{records_of}
use Rattle.record_loop.specs.declared.ending.Ending.{Ending}
use Rattle.record_loop.specs.Printing.{Finished, HoldsAllBut, KeepsTaking}
use Rattle.record_loop.specs.Tallies.{IsToldBy}
use Rattle.run_tally.specs.Gathered.{Gathered}
use Rattle.record_loop.specs.Reading.{Reads, SessionState, HasTaken}
use Rattle.exec_io.specs.Views.{SinkView}
use Rattle.exec_io.specs.Views.{SourceView}
use Rattle.record_loop.specs.Standing.{Opening, terms_at}
use Rattle.line_rules.specs.Lawful.{Lawful}

-- The records of these lines have outcomes, which are lawful for them, printed, and tell of all
-- that was collected on the table.
pub record Answered (WantsMemory : Blueprint → Type 0) (opening : Opening)
    (lines : List (List ℕ)) (collected : List Gathered) (now : SinkView)
    (ending : Ending) : Type 0 where
  pub outcomes : List Outcome
  pub lawful : Lawful (terms_at WantsMemory opening) lines outcomes
  pub finished : Finished opening.form opening.sink now ending.summary ending.lost outcomes
  pub told : IsToldBy opening.plan opening.table outcomes collected

-- Bytes were read until the end that the ending names, and their records are answered, but of a
-- rest that was read when a write was lost. Where none was, a fault is the source's. No record was
-- begun after a lost write: the records whose lines don't stand whole in out are a window at most,
-- those that were in flight then.
pub record Ran (WantsMemory : Blueprint → Type 0) (opening : Opening) (before after : SourceView)
    (collected : List Gathered) (now : SinkView) (ending : Ending) : Type 0 where
  pub bytes : List ℕ
  pub rest : List ℕ
  pub reads : Reads before.left after.left ending.end bytes rest
  pub all : KeepsTaking opening.form ending.lost → rest ≡ []
  pub answered : Answered WantsMemory opening (records_of bytes ending.end) collected now ending
  pub cause : ending.end ≡ Fault → KeepsTaking opening.form ending.lost
      → Rose before.faults after.faults
  pub begun : HoldsAllBut opening.window opening.form opening.sink now answered.outcomes

-- From a session that starts in any opening the run over its records was this.
abbrev pub RunsFrom : (Blueprint → Type 0) → SessionState → SourceView → SourceView → List Gathered
    → SinkView → Ending → Type 0
RunsFrom WantsMemory place before after collected now ending =
    (opening : Opening) → HasTaken WantsMemory opening [] place
    → Ran WantsMemory opening before after collected now ending
