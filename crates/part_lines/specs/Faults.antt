-- Why a part isn't read on.
use Rattle.std.specs.Prelude.{◌≡◌, ◌≢◌, ℕ, ◌≤◌, ◌==◌, if◌then◌else◌, List, [], length, Option, None, Some, Result, Ok, Err, IfSome, IsErrOf, IsNone, IsSomeAnd}
use Rattle.exec_io.specs.Causes.{Rose}
use Rattle.part_lines.specs.declared.reader.PartFault.{PartFault}
use Rattle.part_lines.specs.declared.reader.PartFault.TheVariants.{Missing, NotLine, Failed, NoMemory}
use Rattle.part_lines.specs.declared.window.ReadFault.{ReadFault}
use Rattle.part_lines.specs.declared.window.ReadFault.TheVariants.{Failed as ReadFailed, NoMemory as NoReadMemory}
use Rattle.part_lines.specs.Lines.{BeginsLine, StopsAt}
use Rattle.part_lines.specs.Readers.{ReaderView}

-- What is ahead isn't the line of this number, and isn't nothing.
pub record IsNoLine (number : ℕ) (rest : List ℕ) : Type 0 where
  pub some : rest ≢ []
  pub no_line : ¬ BeginsLine number rest

-- Why there is no next line, which would have this number.
abbrev pub IsFaultAt : Option (List ℕ) → ℕ → PartFault → Type 0
IsFaultAt ahead number (NotLine at) = (at ≡ number) × IfSome ahead (IsNoLine number)
IsFaultAt ahead number Missing = ⊥
IsFaultAt ahead number Failed = Unit {0}
IsFaultAt ahead number NoMemory = Unit {0}

-- Why a read of more bytes stops a part.
abbrev pub of_read : ReadFault → PartFault
of_read ReadFailed = Failed
of_read NoReadMemory = NoMemory

-- What comes at the end of a file: nothing, where nothing is at hand.
abbrev pub at_end : List ℕ → ℕ → Result (Option ℕ) PartFault
at_end at_hand number = if length at_hand == 0 then Ok None else Err (NotLine number)

-- A part fails to be read only where the folder's count rose, and otherwise leaves it as it was.
pub record HasPartCause {T : Type 0} (before now : ℕ) (result : Result T PartFault) : Type 0 where
  pub later : before ≤ now
  pub failed : IsErrOf result Failed → Rose before now
  pub still : result ≢ Err Failed → now ≡ before

-- What opening the file of this text gives: a reader at its start; there is none for a name that
-- has no text.
abbrev pub OpensPart : Option (List ℕ) → Result ReaderView PartFault → Type 0
OpensPart text (Ok reader) = IsSomeAnd text (λ bytes. reader.ahead ≡ Some bytes)
OpensPart text (Err Missing) = IsNone text
OpensPart text (Err (NotLine at)) = ⊥
OpensPart text (Err Failed) = Unit {0}
OpensPart text (Err NoMemory) = Unit {0}

-- Why the text of a file isn't a part; or it wasn't read.
abbrev pub StopsPart : List ℕ → PartFault → Type 0
StopsPart text (NotLine number) = StopsAt text number
StopsPart text Missing = ⊥
StopsPart text Failed = Unit {0}
StopsPart text NoMemory = Unit {0}
