-- How a run ends.
use Rattle.std.specs.Prelude.{◌≡◌, ◌≢◌, ◌⊎◌, ℕ, ◌≤◌, List}
use Rattle.exec_io.specs.Asked.{AsksOnce}
use Rattle.exec_io.specs.Causes.{Rose}
use Rattle.exec_value.specs.declared.outcome.Outcome.{Outcome}
use Rattle.exec_io.specs.Untouched.{IsHandedOn}
use Rattle.plan_reader.specs.declared.fault.PlanFault.{PlanFault}
use Rattle.plan_reader.specs.PlanFile.{IsPlanOf}
use Rattle.plan_kinds.specs.Small.{IsSmall}
use Rattle.plan_shape.specs.Blueprint.{Blueprint}
use Rattle.record_lines.specs.declared.ending.End.{End}
use Rattle.exec_status.specs.declared.status.Status.{Status}
use Rattle.exec_status.specs.declared.status.Status.TheVariants.{AllValues, NotAllValues, PlanRefused, NoMemory, ReadFault, WriteFault, Limit}
use Rattle.exec_status.specs.Files.{RunsShort}
use Rattle.exec_status.specs.Noted.{Noted}
use Rattle.exec_engine.specs.declared.tally.Tally.{Tally}
use Rattle.exec_engine.specs.declared.task.Task.{Task}
use Rattle.exec_engine.specs.Complete.{IsFinished, SettleToValues}
use Rattle.exec_engine.specs.Opening.{Finds, IsRefused}
use Rattle.exec_engine.specs.Refusals.{IsPlanRefusedWith}
use Rattle.exec_engine.specs.Says.{HasNoMemory, Lines, Says, Untouched}
use Rattle.exec_engine.specs.Surroundings.{Surroundings, streams_in}
use Rattle.exec_engine.specs.Tallies.{AreInOrder}
use Rattle.exec_engine.specs.Taken.{LeavesSource, SourcePassesLimit, KeepsLimit, IsWithin, OfRecords}

-- A run of this task ended with this tally and this status.
pub record RunEnds (task : Task) (old new : Surroundings) (tally : Tally) (status : Status)
    : Type 0 where
  -- What the status says of the plan, the records, the lines and the tally, and what notes hold.
  pub says : Says task old new tally status
  pub noted : Noted (Says task old new tally) (IsPlanRefusedWith old.shelf.texts task.plan.now)
      old.notes new.notes status
  -- Each worker's backend was in the order of the task.
  pub ordered : AreInOrder task tally.closing tally.given
  -- A fault is answered only where a count of faults rose in this call, and where none is answered
  -- no call of the shelf, the records or out failed.
  pub read_fault : status ≡ ReadFault
      → Rose old.shelf.faults new.shelf.faults ⊎ Rose old.records.faults new.records.faults
  pub write_fault : status ≡ WriteFault
      → Rose old.out.faults new.out.faults ⊎ Rose old.notes.faults new.notes.faults
  pub shelf_still : status ≢ ReadFault → status ≢ WriteFault
      → new.shelf.faults ≡ old.shelf.faults
  pub records_still : status ≢ ReadFault → status ≢ WriteFault
      → new.records.faults ≡ old.records.faults
  pub out_still : status ≢ WriteFault → new.out.faults ≡ old.out.faults
  -- Generated records read nothing. Of a source that tells its bytes the limit is answered only
  -- where they pass one, and the end where not.
  pub leaves : LeavesSource task.origin (streams_in old) (streams_in new)
  pub beyond : status ≡ Limit → SourcePassesLimit task.origin old.records
  pub within : (status ≡ AllValues) ⊎ (status ≡ NotAllValues) → KeepsLimit task.origin old.records
  -- A sink that was written to, and didn't fail, has nothing left to hand on.
  pub out_handed_on : ¬ Rose old.out.faults new.out.faults → IsHandedOn old.out new.out
  pub notes_handed_on : ¬ Rose old.notes.faults new.notes.faults → IsHandedOn old.notes new.notes
  -- A plan that the shelf gives, without a fault, and that is refused, is answered so, also where
  -- notes fail, unless memory runs out.
  pub refused : (fault : PlanFault) → Finds old task (λ bytes. IsRefused bytes fault)
      → ¬ Rose old.shelf.faults new.shelf.faults
      → (status ≡ PlanRefused) ⊎ RunsShort old.notes new.notes status
  -- A run that nothing hinders, of a plan that the shelf gives, over records within the limits,
  -- comes to the end of them, unless memory runs out; and where each record settles to a value, all
  -- lines are values.
  pub complete : (plan : Blueprint) → Finds old task (λ bytes. IsPlanOf bytes plan)
      → IsWithin task.origin old.records
      → ¬ Rose old.shelf.faults new.shelf.faults → ¬ Rose old.records.faults new.records.faults
      → ¬ Rose old.out.faults new.out.faults → ¬ Rose old.notes.faults new.notes.faults
      → IsFinished status
  pub complete_values : (plan : Blueprint)
      → Finds old task (λ bytes. IsPlanOf bytes plan) → IsFinished status
      → OfRecords task.origin plan.settings.input old.records (SettleToValues task plan)
      → (status ≡ AllValues) ⊎ (status ≡ NoMemory)
  -- No line of a small plan is out-of-memory, and for one memory runs out only before a record is
  -- read or generated.
  pub small_lines : (end : End) (rest : List ℕ) (outcomes : List Outcome)
      (lines : Lines task old new end rest outcomes) → IsSmall lines.plan → ¬ HasNoMemory outcomes
  pub small : (plan : Blueprint) → Finds old task (λ bytes. IsPlanOf bytes plan)
      → IsSmall plan → status ≡ NoMemory → Untouched task old new tally
  -- The shelf is asked for the plan, once, and for nothing else. Nothing on it changes.
  pub asks : AsksOnce task.plan.now old.shelf.asked new.shelf.asked
  pub shelf_same : new.shelf.texts ≡ old.shelf.texts
  -- No count of faults falls.
  pub shelf_later : old.shelf.faults ≤ new.shelf.faults
  pub records_later : old.records.faults ≤ new.records.faults
  pub out_later : old.out.faults ≤ new.out.faults
  pub notes_later : old.notes.faults ≤ new.notes.faults
