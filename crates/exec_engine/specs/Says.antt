-- What each status says of the plan, the records, the lines and the tally.
use Rattle.std.specs.Prelude.{◌≡◌, ◌⊎◌, ℕ, ◌<◌, List, [], length, count_by}
use Rattle.atomic_table.specs.Seated.{TableId}
use Rattle.exec_io.specs.Causes.{Rose}
use Rattle.exec_io.specs.Sinks.{Appends}
use Rattle.exec_io.specs.Views.{SinkView}
use Rattle.exec_value.specs.declared.outcome.Outcome.{Outcome}
use Rattle.outcome_lines.specs.Summary.{is_value, is_out_of_memory}
use Rattle.exec_io.specs.Writing.{AppendsFront}
use Rattle.plan_reader.specs.declared.fault.PlanFault.{PlanFault}
use Rattle.plan_shape.specs.Blueprint.{Blueprint}
use Rattle.record_lines.specs.declared.ending.End.{End}
use Rattle.record_lines.specs.declared.ending.End.TheVariants.{Ended, Fault, Limit as LimitEnd}
use Rattle.record_loop.specs.Printing.{HoldsAllBut, text_of}
use Rattle.record_loop.specs.Standing.{Opening}
use Rattle.whole_run.specs.Endings.{IsUnbegun, WantsMemory, begins}
use Rattle.line_rules.specs.Lawful.{Terms, Lawful}
use Rattle.line_rules.specs.PlanTerms.{terms_of, window_of}
use Rattle.exec_status.specs.declared.status.Status.{Status}
use Rattle.exec_status.specs.declared.status.Status.TheVariants.{AllValues, NotAllValues, Usage, PlanRefused, NoMemory, ReadFault, WriteFault, Limit}
use Rattle.exec_engine.specs.declared.tally.Tally.{Tally}
use Rattle.exec_engine.specs.declared.task.Task.{Task}
use Rattle.exec_engine.specs.Opening.{HasPlan, HasPlanRefusal}
use Rattle.exec_engine.specs.Surroundings.{Surroundings, streams_in}
use Rattle.exec_engine.specs.Taken.{Takes, OutCaughtUp}
use Rattle.exec_engine.specs.Tallies.{IsNew, IsTallyOf}
use Rattle.exec_engine.specs.Tasks.{form_for}

-- Each line is a value: there are as many values as lines.
abbrev pub AreValues : List Outcome → Type 0
AreValues outcomes = count_by is_value outcomes ≡ length outcomes

-- Some line is out-of-memory.
abbrev pub HasNoMemory : List Outcome → Type 0
HasNoMemory outcomes = 0 < count_by is_out_of_memory outcomes

-- No line is out-of-memory, and some line is no value.
abbrev pub HasFailure : List Outcome → Type 0
HasFailure outcomes =
    (count_by is_out_of_memory outcomes ≡ 0) × (count_by is_value outcomes < length outcomes)

-- What the plan asks of the lines of a task.
abbrev pub terms_for : Task → Blueprint → Terms
terms_for task plan = terms_of WantsMemory plan (window_of plan task.window)

-- A run of a task by a plan begins so, on this table.
abbrev pub opening_for : Task → Blueprint → TableId → SinkView → Opening
opening_for task plan table sink =
    begins plan table (window_of plan task.window) (form_for task.origin) sink

module _ (task : Task) (old new : Surroundings) where
  -- The shelf gave a plan under the name, records were taken until this end, but for a rest that
  -- was read, and the outcomes are lawful for them.
  pub record Lines (end : End) (rest : List ℕ) (outcomes : List Outcome) : Type 0 where
    pub plan : Blueprint
    pub has : HasPlan old.shelf.texts task.plan.now plan
    pub records : List (List ℕ)
    pub takes : Takes task.origin plan.settings.input old.records new.records end rest records
    pub lawful : Lawful (terms_for task plan) records outcomes

  -- A call of the source failed.
  abbrev SourceFailed : Type 0
  SourceFailed = Rose old.records.faults new.records.faults

  -- When a read began, each record whose line feed was read was answered.
  abbrev HasRead : Blueprint → TableId → Type 0
  HasRead plan table =
      OutCaughtUp task.origin (opening_for task plan table old.out)
      (streams_in old) (streams_in new)

  module _ (tally : Tally) where
    -- All records that were read were taken, the lines of their outcomes, or the one line for all,
    -- were written whole, and no call of out failed. The tally is that of these outcomes, and when
    -- a read began, each record whose line feed was read was answered.
    pub record Prints (end : End) (P : List Outcome → Type 0) : Type 0 where
      pub outcomes : List Outcome
      pub lines : Lines end [] outcomes
      pub holds : P outcomes
      pub whole : Appends old.out.written new.out.written (text_of (form_for task.origin) outcomes)
      pub still : new.out.faults ≡ old.out.faults
      pub told : IsTallyOf lines.plan (window_of lines.plan task.window) outcomes tally
      pub reads : HasRead lines.plan told.closing.board.table_id

    -- A front of the lines of the records that were taken was written, all lines whole but of a
    -- window of records at most: none was begun after a lost write. Where no call of out failed it
    -- is the whole, all records that were read were taken, and the reading came to its end, to a
    -- limit, or to a fault of the source. The tally is that of all outcomes, written or not, and
    -- when a read began, each record whose line feed was read was answered.
    pub record PrintsFront : Type 0 where
      pub end : End
      pub rest : List ℕ
      pub outcomes : List Outcome
      pub lines : Lines end rest outcomes
      pub all : ¬ Rose old.out.faults new.out.faults → rest ≡ []
      pub front : AppendsFront old.out.written new.out.written
          (text_of (form_for task.origin) outcomes)
      pub begun : HoldsAllBut (window_of lines.plan task.window)
          (form_for task.origin) old.out new.out
          outcomes
      pub whole : ¬ Rose old.out.faults new.out.faults
          → Appends old.out.written new.out.written (text_of (form_for task.origin) outcomes)
      pub cause : ¬ Rose old.out.faults new.out.faults → end ≡ Fault → SourceFailed
      pub told : IsTallyOf lines.plan (window_of lines.plan task.window) outcomes tally
      pub reads : HasRead lines.plan told.closing.board.table_id

    -- Nothing was read of the records, nothing was done to out, no operation was collected and no
    -- table was opened.
    abbrev pub Untouched : Type 0
    Untouched = IsUnbegun (streams_in old) (streams_in new) × IsNew tally

    -- What a status says where the words ask for a run.
    abbrev pub Says : Status → Type 0
    Says AllValues = Prints Ended AreValues
    Says NotAllValues = Prints Ended HasFailure
    Says Usage = ⊥
    Says PlanRefused =
        ((fault : PlanFault) × HasPlanRefusal old.shelf.texts task.plan.now fault) × Untouched
    Says NoMemory = Untouched ⊎ Prints Ended HasNoMemory
    Says ReadFault = Untouched ⊎ Prints Fault (λ _. SourceFailed)
    Says WriteFault = Untouched ⊎ PrintsFront
    Says Limit = Prints LimitEnd (λ _. Unit {0})
