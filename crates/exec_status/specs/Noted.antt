-- What notes hold of each status.
use Rattle.std.specs.Prelude.{◌≡◌, ◌≢◌, ◌⊎◌, ℕ, List, []}
use Rattle.exec_status.specs.declared.status.Status.{Status}
use Rattle.exec_status.specs.declared.status.Status.TheVariants.{AllValues, NotAllValues, Usage, PlanRefused, NoMemory, ReadFault, WriteFault, Limit}
use Rattle.exec_io.specs.Views.{SinkView}
use Rattle.exec_status.specs.Sinks.{TellsAll, TellsFront, Tells}
use Rattle.exec_status.specs.Notes.{note_of}

-- The note of this status was told as far as notes took it, or there is none.
pub data Concludes (status : Status) (old new : SinkView) : Status → Type 0 where
  quiet : note_of status ≡ [] → new ≡ old → Concludes status old new status
  told : note_of status ≢ [] → TellsAll old new (note_of status) → Concludes status old new status
  failed : note_of status ≢ [] → TellsFront old new (note_of status)
      → Concludes status old new WriteFault

-- Notes failed while they were told of a status to which the run had come.
pub record Interrupts (came : Status → Type 0) (old new : SinkView) : Type 0 where
  pub status : Status
  pub to_status : came status
  pub has_note : note_of status ≢ []
  pub front : TellsFront old new (note_of status)

-- What notes hold where the words are a command. `came` says what it is for its run to have come to
-- a status: where notes fail at its note, the answer is a write fault. `refused` says that the file
-- is refused with this note.
module _ (came : Status → Type 0) (refused : List ℕ → Type 0) (old new : SinkView) where
  abbrev pub Noted : Status → Type 0
  Noted AllValues = new ≡ old
  Noted NotAllValues = new ≡ old
  Noted Usage = ⊥
  Noted PlanRefused = (note : List ℕ) × refused note × Tells old new note
  Noted NoMemory = TellsAll old new (note_of NoMemory)
  Noted ReadFault = TellsAll old new (note_of ReadFault)
  Noted WriteFault = TellsAll old new (note_of WriteFault) ⊎ Interrupts came old new
  Noted Limit = TellsAll old new (note_of Limit)
