-- What writing the lines of a part does to a sink.
use Rattle.std.specs.Prelude.{◌≡◌, ◌≢◌, ℕ, ◌+◌, ◌≤◌, List, length, Result, Ok, Err, IsErrOf}
use Rattle.exec_io.specs.Causes.{Rose}
use Rattle.exec_io.specs.Sinks.{Appends}
use Rattle.exec_io.specs.Views.{SinkView}
use Rattle.exec_io.specs.Writing.{AppendsFront}
use Rattle.part_lines.specs.declared.putting.PutFault.{PutFault}
use Rattle.part_lines.specs.declared.putting.PutFault.TheVariants.{Part, Write}
use Rattle.part_lines.specs.declared.reader.PartFault.TheVariants.{Failed, NoMemory}
use Rattle.part_lines.specs.Lines.{lines_from}

-- The lines of these words were written, the first behind so many lines; or a front of them, where
-- a write failed or the part wasn't read on.
abbrev pub PutsLines : ℕ → List (List ℕ) → SinkView → SinkView → Result ℕ PutFault → Type 0
PutsLines before said old new (Ok written) =
    Appends old.written new.written (lines_from (before + 1) said)
    × (new.faults ≡ old.faults) × (written ≡ before + length said)
PutsLines before said old new (Err Write) =
    AppendsFront old.written new.written (lines_from (before + 1) said)
    × Rose old.faults new.faults
PutsLines before said old new (Err (Part Failed)) =
    AppendsFront old.written new.written (lines_from (before + 1) said)
PutsLines before said old new (Err (Part NoMemory)) =
    AppendsFront old.written new.written (lines_from (before + 1) said)
PutsLines before said old new (Err (Part fault)) = ⊥

-- This fault is answered only where a count of faults rose, and otherwise the count stays.
pub record HasPutCause {T : Type 0} (fault : PutFault) (before now : ℕ) (result : Result T PutFault)
    : Type 0 where
  pub later : before ≤ now
  pub failed : IsErrOf result fault → Rose before now
  pub still : result ≢ Err fault → now ≡ before
