-- How what words ask for ends.
use Rattle.std.specs.Prelude.{◌≡◌, ◌≢◌, ◌≤◌, ◌++◌, ℕ, List, codes}
use Rattle.exec_io.specs.Outside.{outside}
use Rattle.exec_io.specs.Views.{ShelfView, SinkView, SourceView}
use Rattle.exec_status.specs.declared.status.Status.{Status}
use Rattle.exec_status.specs.declared.status.Status.TheVariants.{ReadFault}
use Rattle.exec_status.specs.Sinks.{Tells}
use Rattle.trace_commands.specs.Answers.{Question}
use Rattle.trace_commands.specs.Ends.{Ends}
use Rattle.picture_commands.specs.Answers.{the_plan, the_text, the_trace, the_why, the_write}
use Rattle.show_words.specs.declared.asked.Asked.{Asked}
use Rattle.show_words.specs.declared.asked.Asked.TheVariants.{Plan, Trace, Why, Write, Text}
use Rattle.show_words.specs.Usage.{show_usage_lines}

-- Words that ask for nothing are told how the program is called: nothing is read, and nothing is
-- done to out.
pub record UsageShown (shelf shelf' : ShelfView) (out out' notes notes' : SinkView) : Type 0 where
  pub shelf_same : shelf' ≡ shelf
  pub out_same : out' ≡ out
  pub told : Tells notes notes' show_usage_lines
  pub notes_later : notes.faults ≤ notes'.faults

-- What is asked of which file.
abbrev pub question_of : Asked → Question
question_of (Plan file) = the_plan
question_of (Trace file rows) = the_trace rows
question_of (Why file) = the_why
question_of (Write file) = the_write
question_of (Text file) = the_text

abbrev pub file_of : Asked → List ℕ
file_of (Plan file) = file.now
file_of (Trace file rows) = file.now
file_of (Why file) = file.now
file_of (Write file) = file.now
file_of (Text file) = file.now

-- The line that names a file that wasn't read.
abbrev pub missing_text : List ℕ → List ℕ
missing_text name = codes "cannot read " ++ (name ++ codes "\n")

-- At a read fault the file is named, as far as notes take it; else nothing is told.
pub record Names (status : Status) (name : List ℕ) (old new : SinkView) : Type 0 where
  pub missing : status ≡ ReadFault → Tells old new (missing_text name)
  pub others : status ≢ ReadFault → new ≡ old

-- The command ended as one on a file does, and after that the file was named where it wasn't read.
-- Whatever a source of records tells, none are read.
pub record ShownEnds (question : Question) (name : List ℕ) (shelf shelf' : ShelfView)
    (out out' notes notes' : SinkView) (status : Status) : Type 0 where
  -- What notes held before the file was named.
  pub ended : SinkView
  pub ends : (records : SourceView) → Ends question name
      (outside shelf records out notes) (outside shelf' records out' ended) status
  pub names : Names status name ended notes'
  pub notes_later : notes.faults ≤ notes'.faults

-- What was asked for was shown, which ended with this status.
abbrev pub ShowEnds : ShelfView → ShelfView → SinkView → SinkView → SinkView → SinkView → Status
    → Asked → Type 0
ShowEnds shelf shelf' out out' notes notes' status asked =
    ShownEnds (question_of asked) (file_of asked) shelf shelf' out out' notes notes' status
