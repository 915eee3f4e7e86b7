-- Where a file has no answer, and what is told of that.
use Rattle.std.specs.Prelude.{◌≡◌, ◌≢◌, ◌⊎◌, ℕ, ◌≤◌, List, Result, Err}
use Rattle.exec_io.specs.Asked.{AsksOnce}
use Rattle.exec_io.specs.Causes.{Rose}
use Rattle.exec_io.specs.Views.{ShelfView, SinkView}
use Rattle.exec_status.specs.declared.file.FileFault.{FileFault}
use Rattle.exec_status.specs.declared.file.FileFault.TheVariants.{Refused, ReadFault as NotRead, NoMemory as NoFileMemory}
use Rattle.exec_status.specs.declared.status.Status.{Status}
use Rattle.exec_status.specs.declared.status.Status.TheVariants.{PlanRefused, NoMemory, ReadFault, WriteFault}
use Rattle.exec_status.specs.Notes.{note_of}
use Rattle.exec_status.specs.Noted.{Concludes}
use Rattle.exec_status.specs.Sinks.{Tells, TellsFront}

-- What a command did to the shelf: it asked for the text of this name and for no other, changed
-- nothing, and answers a fault of the shelf only where the count rose.
pub record ReadsShelf {T C : Type 0} (name : List ℕ) (old new : ShelfView)
    (result : Result T (FileFault C)) : Type 0 where
  pub asks : AsksOnce name old.asked new.asked
  pub same : new.texts ≡ old.texts
  pub later : old.faults ≤ new.faults
  pub cause : result ≡ Err NotRead → Rose old.faults new.faults
  pub still : result ≢ Err NotRead → new.faults ≡ old.faults

-- A fault of the shelf refuses nothing.
abbrev pub IsOfShelf : {C : Type 0} → FileFault C → Type 0
IsOfShelf (Refused cause) = ⊥
IsOfShelf _ = Unit {0}

-- Why bytes that were read have no answer: they are refused, or there was no memory.
abbrev pub IsFaultOf : {C : Type 0} → (C → Type 0) → FileFault C → Type 0
IsFaultOf refuses (Refused cause) = refuses cause
IsFaultOf refuses NotRead = ⊥
IsFaultOf refuses NoFileMemory = Unit {0}

-- Why a file has no answer: it has a cause for which it is refused, or it wasn't read.
abbrev pub Misses : {C : Type 0} → (C → Type 0) → FileFault C → Type 0
Misses has (Refused cause) = has cause
Misses has _ = Unit {0}

-- What notes are told of that, and the status that stands then. A refusal stands also where notes
-- fail.
abbrev pub GivesUp : {C : Type 0} → (C → List ℕ) → FileFault C → SinkView → SinkView → Status
    → Type 0
GivesUp text (Refused cause) old new status = (status ≡ PlanRefused) × Tells old new (text cause)
GivesUp text NotRead old new status = Concludes ReadFault old new status
GivesUp text NoFileMemory old new status = Concludes NoMemory old new status

-- Memory ran out, and that was told; or notes failed at it.
abbrev pub RunsShort : SinkView → SinkView → Status → Type 0
RunsShort old new status =
    (status ≡ NoMemory) ⊎ ((status ≡ WriteFault) × TellsFront old new (note_of NoMemory))
