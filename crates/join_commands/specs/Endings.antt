-- How a call of the program ends.
use Rattle.std.specs.Prelude.{◌≡◌, ℕ, List, drop, Some, Result, Ok, Err}
use Rattle.std.specs.Borrow.{Bor}
use Rattle.exec_io.specs.Shelves.{Texts}
use Rattle.exec_io.specs.Views.{SinkView}
use Rattle.exec_status.specs.declared.status.Status.{Status}
use Rattle.exec_status.specs.declared.status.Status.TheVariants.{Usage, PlanRefused, ReadFault as ReadStatus, WriteFault as WriteStatus, NoMemory as MemoryStatus}
use Rattle.exec_status.specs.Noted.{Concludes}
use Rattle.exec_status.specs.Sinks.{Tells}
use Rattle.join_commands.specs.declared.ask.Asked.{Asked}
use Rattle.join_commands.specs.declared.ask.Asked.TheVariants.{Lines, Dealt, Summary}
use Rattle.join_commands.specs.declared.fault.JoinFault.{JoinFault}
use Rattle.join_commands.specs.declared.fault.JoinFault.TheVariants.{Refused, ReadFault, WriteFault, NoMemory}
use Rattle.join_commands.specs.Asks.{join_usage, words_before}
use Rattle.join_commands.specs.Faults.{HasJoinCause, IsJoinFault}
use Rattle.join_commands.specs.Joins.{JoinsLines, LeavesFront}
use Rattle.join_commands.specs.Notes.{part_refusal_text}
use Rattle.join_commands.specs.Summaries.{JoinsSummaries, LeavesSumFront}
use Rattle.join_commands.specs.Unsummed.{IsUnsummed}
use Rattle.part_lines.specs.Folders.{FolderView}

-- What is asked of the parts of these names was joined, or it wasn't for a fault.
abbrev pub EndsJoin : Texts → Asked → List (Bor (List ℕ)) → SinkView → SinkView
    → Result Status JoinFault → Type 0
EndsJoin texts Lines names old new (Ok status) = JoinsLines texts Lines names old new status
EndsJoin texts Dealt names old new (Ok status) = JoinsLines texts Dealt names old new status
EndsJoin texts Summary names old new (Ok status) = JoinsSummaries texts names old new status
EndsJoin texts Lines names old new (Err fault) =
    IsJoinFault texts names fault × LeavesFront texts Lines names old new fault
EndsJoin texts Dealt names old new (Err fault) =
    IsJoinFault texts names fault × LeavesFront texts Dealt names old new fault
EndsJoin texts Summary names old new (Err fault) =
    IsUnsummed texts names fault × LeavesSumFront texts names old new fault

-- Why the parts of these names aren't joined is told, and this status stands then. A refusal stands
-- also where notes fail.
abbrev pub TellsFault : List (Bor (List ℕ)) → JoinFault → SinkView → SinkView → Status → Type 0
TellsFault names (Refused refusal) old new status =
    (status ≡ PlanRefused) × Tells old new (part_refusal_text names refusal)
TellsFault names ReadFault old new status = Concludes ReadStatus old new status
TellsFault names WriteFault old new status = Concludes WriteStatus old new status
TellsFault names NoMemory old new status = Concludes MemoryStatus old new status

-- How joining the parts of these names ended is told, and this status stands then.
abbrev pub TellsEnd : List (Bor (List ℕ)) → Result Status JoinFault → SinkView → SinkView → Status
    → Type 0
TellsEnd names (Ok status) old new stands = Concludes status old new stands
TellsEnd names (Err fault) old new stands = TellsFault names fault old new stands

-- Words that ask nothing are a fault of usage, and nothing is done to the folder and to out.
pub record IsUsage (before now : FolderView) (old new noted notes : SinkView) (status : Status)
    : Type 0 where
  pub status_is : status ≡ Usage
  pub folder : now ≡ before
  pub out : new ≡ old
  pub told : Tells noted notes join_usage

-- The names of the parts of which this is asked.
abbrev pub names_asked : Asked → List (Bor (List ℕ)) → List (Bor (List ℕ))
names_asked asked words = drop (words_before asked) words

-- What is asked of parts was joined or not, and it was told how that ended. That a read failed is
-- answered only where the folder's count rose, and that a write failed only where that of out did.
pub record IsAnswered (words : List (Bor (List ℕ))) (before now : FolderView)
    (old new noted notes : SinkView) (status : Status) (asked : Asked) : Type 0 where
  pub ended : Result Status JoinFault
  pub ends : (texts : Texts) → before.texts ≡ Some texts
      → EndsJoin texts asked (names_asked asked words) old new ended
  pub reads : HasJoinCause ReadFault before.faults now.faults ended
  pub writes : HasJoinCause WriteFault old.faults new.faults ended
  pub told : TellsEnd (names_asked asked words) ended noted notes status
