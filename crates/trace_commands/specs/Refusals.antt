-- Why a file is refused, and what is told of that.
use Rattle.std.specs.Prelude.{◌≡◌, ℕ, List, Option, codes}
use Rattle.exec_io.specs.Shelves.{Texts, Gives}
use Rattle.exec_status.specs.declared.file.FileFault.{FileFault}
use Rattle.exec_status.specs.declared.file.FileFault.TheVariants.{Refused, NoMemory}
use Rattle.exec_status.specs.Sinks.{numbered}
use Rattle.trace_text.specs.declared.fault.TraceFault.{TraceFault}
use Rattle.trace_text.specs.declared.fault.TraceFault.TheVariants.{TooLong as TooLongFault, Line as LineFault, NoMemory as NoTraceMemory}
use Rattle.trace_text.specs.declared.limits.TheConstants.{FILE_BYTES}
use Rattle.trace_commands.specs.declared.file.Refusal.{Refusal}
use Rattle.trace_commands.specs.declared.file.Refusal.TheVariants.{TooLong, Line}
use Rattle.trace_commands.specs.Answers.{Question}

-- What is told of a file that is refused.
abbrev pub told_refusal : Refusal → List ℕ
told_refusal TooLong = codes "trace refused: too long\n"
told_refusal (Line n) = numbered (codes "trace refused: line ") n

-- A fault of the reading refuses the file, or there was no memory.
abbrev pub file_fault : TraceFault → FileFault Refusal
file_fault TooLongFault = Refused TooLong
file_fault (LineFault n) = Refused (Line n)
file_fault NoTraceMemory = NoMemory

-- The shelf gave bytes under the name that are refused for this cause.
pub record HasRefusal (question : Question) (texts : Option Texts) (name : List ℕ)
    (refusal : Refusal) : Type 0 where
  pub bytes : List ℕ
  pub given : Gives FILE_BYTES texts name bytes
  pub is : question.refuses bytes refusal

-- The file is refused with this note.
abbrev pub IsRefusedWith : Question → Option Texts → List ℕ → List ℕ → Type 0
IsRefusedWith question texts name note =
    (refusal : Refusal) × HasRefusal question texts name refusal × (note ≡ told_refusal refusal)
