-- Why parts aren't joined.
use Rattle.std.specs.Prelude.{◌≡◌, ◌≢◌, ℕ, ◌+◌, ◌≤◌, ◌<◌, List, length, None, Some, Result, Err, IsErrOf, IsNone, slice_get}
use Rattle.std.specs.Borrow.{Bor}
use Rattle.exec_io.specs.Causes.{Rose}
use Rattle.exec_io.specs.Shelves.{Texts, text_of}
use Rattle.join_commands.specs.declared.fault.JoinFault.{JoinFault}
use Rattle.join_commands.specs.declared.fault.JoinFault.TheVariants.{Refused as JoinRefused, ReadFault as JoinReadFault, WriteFault as JoinWriteFault, NoMemory as JoinNoMemory}
use Rattle.join_commands.specs.declared.fault.LookFault.{LookFault}
use Rattle.join_commands.specs.declared.fault.LookFault.TheVariants.{Refused, ReadFault, NoMemory}
use Rattle.join_commands.specs.declared.refusal.Cause.{Cause}
use Rattle.join_commands.specs.declared.refusal.Cause.TheVariants.{NoStatus, StatusIsnt, NoLines, NotDealt, NotLine}
use Rattle.part_lines.specs.declared.putting.PutFault.{PutFault}
use Rattle.part_lines.specs.declared.putting.PutFault.TheVariants.{Part, Write}
use Rattle.part_lines.specs.declared.reader.PartFault.{PartFault}
use Rattle.part_lines.specs.declared.reader.PartFault.TheVariants.{Missing as NoPart, NotLine as NoPartLine, Failed as PartFailed, NoMemory as NoPartMemory}
use Rattle.join_commands.specs.Parts.{IsPartRefusedFor, IsWholePart, ToldStatus, out_name, status_name}

-- Why the part of this name isn't read: it is refused for a cause that it has, or a file can't be
-- read, or there was no memory.
abbrev pub IsLookFault : Texts → List ℕ → LookFault → Type 0
IsLookFault texts name (Refused cause) = IsPartRefusedFor texts name cause
IsLookFault texts name ReadFault = Unit {0}
IsLookFault texts name NoMemory = Unit {0}

-- Why it isn't known with which status the run over the part of this name ended: that isn't told,
-- or what is told is no status; or the file can't be read, or there was no memory.
abbrev pub IsStatusFault : Texts → List ℕ → LookFault → Type 0
IsStatusFault texts name (Refused NoStatus) = IsNone (text_of texts (status_name name))
IsStatusFault texts name (Refused (StatusIsnt said)) = ToldStatus texts name None
IsStatusFault texts name (Refused cause) = ⊥
IsStatusFault texts name ReadFault = Unit {0}
IsStatusFault texts name NoMemory = Unit {0}

-- Why what the run over a part wrote isn't opened: there is none; or it can't be opened, or there
-- was no memory.
abbrev pub IsOpenFault : Texts → List ℕ → LookFault → Type 0
IsOpenFault texts name (Refused NoLines) = IsNone (text_of texts (out_name name))
IsOpenFault texts name (Refused cause) = ⊥
IsOpenFault texts name ReadFault = Unit {0}
IsOpenFault texts name NoMemory = Unit {0}

-- A read fault is answered only where the folder's count rose, and otherwise the count stays.
pub record HasLookCause {T : Type 0} (before now : ℕ) (result : Result T LookFault) : Type 0 where
  pub later : before ≤ now
  pub failed : IsErrOf result ReadFault → Rose before now
  pub still : result ≢ Err ReadFault → now ≡ before

-- Why the lines of a part aren't read on.
abbrev pub of_lines : PartFault → LookFault
of_lines NoPart = Refused NoLines
of_lines (NoPartLine number) = Refused (NotLine number)
of_lines PartFailed = ReadFault
of_lines NoPartMemory = NoMemory

-- The same, of the part at a place.
abbrev pub at_part : ℕ → LookFault → JoinFault
at_part at (Refused cause) = JoinRefused (record { at = at; cause = cause })
at_part at ReadFault = JoinReadFault
at_part at NoMemory = JoinNoMemory

-- Why the lines of the part at a place aren't written on.
abbrev pub at_put : ℕ → PutFault → JoinFault
at_put at (Part fault) = at_part at (of_lines fault)
at_put at Write = JoinWriteFault

-- The line of this number of the part at one place wasn't dealt in turn: the part at another place
-- has ended before its turn came, one line earlier, or two where its turn comes later in a round.
pub record IsUndealt (texts : Texts) (names : List (Bor (List ℕ)))
    (at number ended : ℕ) : Type 0 where
  pub name : Bor (List ℕ)
  pub other : Bor (List ℕ)
  pub said : List (List ℕ)
  pub fewer : List (List ℕ)
  pub name_is : slice_get names at ≡ Some name
  pub other_is : slice_get names ended ≡ Some other
  pub whole : IsWholePart texts name.now said
  pub other_whole : IsWholePart texts other.now fewer
  pub there : number ≤ length said
  pub before : at < ended → number ≡ length fewer + 2
  pub behind : ended ≤ at → number ≡ length fewer + 1

-- The part of the name at this place is refused for this cause, which it has.
abbrev pub IsRefusedAt : Texts → List (Bor (List ℕ)) → ℕ → Cause → Type 0
IsRefusedAt texts names at (NotDealt number ended) = IsUndealt texts names at number ended
IsRefusedAt texts names at cause =
    (name : Bor (List ℕ)) × (slice_get names at ≡ Some name) × IsPartRefusedFor texts name.now cause

-- Why the parts of these names aren't joined: one of them is refused for a cause that it has; or a
-- file can't be read, a write failed, or there was no memory.
abbrev pub IsJoinFault : Texts → List (Bor (List ℕ)) → JoinFault → Type 0
IsJoinFault texts names (JoinRefused refusal) = IsRefusedAt texts names refusal.at refusal.cause
IsJoinFault texts names JoinReadFault = Unit {0}
IsJoinFault texts names JoinWriteFault = Unit {0}
IsJoinFault texts names JoinNoMemory = Unit {0}

-- A file wasn't read, or there was no memory: no part is refused, and no write failed.
abbrev pub IsOfReads : JoinFault → Type 0
IsOfReads (JoinRefused refusal) = ⊥
IsOfReads JoinReadFault = Unit {0}
IsOfReads JoinWriteFault = ⊥
IsOfReads JoinNoMemory = Unit {0}

-- This fault is answered only where a count of faults rose, and otherwise the count stays.
pub record HasJoinCause {T : Type 0} (fault : JoinFault) (before now : ℕ)
    (result : Result T JoinFault) : Type 0 where
  pub later : before ≤ now
  pub failed : IsErrOf result fault → Rose before now
  pub still : result ≢ Err fault → now ≡ before
