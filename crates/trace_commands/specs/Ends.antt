-- How a command on a file ends.
use Rattle.std.specs.Prelude.{◌≡◌, ◌≢◌, ◌⊎◌, ℕ, ◌≤◌, List}
use Rattle.exec_io.specs.Asked.{AsksOnce}
use Rattle.exec_io.specs.Causes.{Rose}
use Rattle.exec_io.specs.Outside.{Outside}
use Rattle.exec_io.specs.Shelves.{Stands}
use Rattle.exec_io.specs.Untouched.{IsHandedOn}
use Rattle.exec_status.specs.declared.status.Status.{Status}
use Rattle.exec_status.specs.declared.status.Status.TheVariants.{PlanRefused, ReadFault, WriteFault}
use Rattle.exec_status.specs.Files.{RunsShort}
use Rattle.exec_status.specs.Noted.{Noted}
use Rattle.trace_text.specs.declared.limits.TheConstants.{FILE_BYTES}
use Rattle.trace_commands.specs.declared.file.Refusal.{Refusal}
use Rattle.trace_commands.specs.Answers.{Question, IsDue}
use Rattle.trace_commands.specs.Refusals.{IsRefusedWith}
use Rattle.trace_commands.specs.Says.{Says}

-- The command on the file of this name ended with this status.
pub record Ends (question : Question) (name : List ℕ) (old new : Outside) (status : Status)
    : Type 0 where
  -- What the status says of the file and of out, and what notes hold.
  pub says : Says question name old new status
  pub noted : Noted (Says question name old new) (IsRefusedWith question old.shelf.texts name)
      old.notes new.notes status
  -- A fault is answered only where a count of faults rose in this call, and where none is answered
  -- no call of the shelf failed (of out and notes `says` and `noted` tell it).
  pub read_fault : status ≡ ReadFault → Rose old.shelf.faults new.shelf.faults
  pub write_fault : status ≡ WriteFault
      → Rose old.out.faults new.out.faults ⊎ Rose old.notes.faults new.notes.faults
  pub shelf_still : status ≢ ReadFault → status ≢ WriteFault
      → new.shelf.faults ≡ old.shelf.faults
  -- A sink that was written to, and didn't fail, has nothing left to hand on.
  pub out_handed_on : ¬ Rose old.out.faults new.out.faults → IsHandedOn old.out new.out
  pub notes_handed_on : ¬ Rose old.notes.faults new.notes.faults → IsHandedOn old.notes new.notes
  -- A file that the shelf gives, without a fault, and that is refused, is answered so, also where
  -- out or notes fail, unless memory runs out.
  pub refused : (refusal : Refusal)
      → Stands FILE_BYTES old.shelf.texts name (λ bytes. question.refuses bytes refusal)
      → ¬ Rose old.shelf.faults new.shelf.faults
      → (status ≡ PlanRefused) ⊎ RunsShort old.notes new.notes status
  -- Where neither the shelf nor out fails, the status is the one that is due to the file that the
  -- shelf gives, also where notes fail, unless memory runs out.
  pub complete : (due : Status)
      → Stands FILE_BYTES old.shelf.texts name (λ bytes. IsDue question bytes due)
      → ¬ Rose old.shelf.faults new.shelf.faults → ¬ Rose old.out.faults new.out.faults
      → (status ≡ due) ⊎ RunsShort old.notes new.notes status
  -- The shelf is asked for this file, once, and for no other. Nothing on it changes, and no records
  -- are read.
  pub asks : AsksOnce name old.shelf.asked new.shelf.asked
  pub shelf_same : new.shelf.texts ≡ old.shelf.texts
  pub records_same : new.records ≡ old.records
  -- No count of faults falls.
  pub shelf_later : old.shelf.faults ≤ new.shelf.faults
  pub out_later : old.out.faults ≤ new.out.faults
  pub notes_later : old.notes.faults ≤ new.notes.faults
