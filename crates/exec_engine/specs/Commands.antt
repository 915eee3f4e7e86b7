-- How a command ends.
use Rattle.std.specs.Prelude.{◌≡◌, ◌≤◌, ℕ, List}
use Rattle.exec_io.specs.Causes.{Rose}
use Rattle.exec_io.specs.Untouched.{IsHandedOn}
use Rattle.exec_words.specs.declared.command.Command.{Command}
use Rattle.exec_words.specs.declared.command.Command.TheVariants.{Run, Gen, Replay, Check}
use Rattle.exec_status.specs.declared.status.Status.{Status}
use Rattle.exec_status.specs.declared.status.Status.TheVariants.{Usage}
use Rattle.exec_status.specs.Notes.{note_of}
use Rattle.exec_status.specs.Sinks.{Tells}
use Rattle.trace_commands.specs.Answers.{Question, the_check, the_replay}
use Rattle.trace_commands.specs.Ends.{Ends}
use Rattle.whole_run.specs.Endings.{IsUnbegun}
use Rattle.exec_engine.specs.declared.tally.Tally.{Tally}
use Rattle.exec_engine.specs.Ends.{RunEnds}
use Rattle.exec_engine.specs.Surroundings.{Surroundings, outside_of, streams_in}
use Rattle.exec_engine.specs.Tallies.{IsNew}
use Rattle.exec_engine.specs.Tasks.{run_task, gen_task}

-- A command on a file ended so. It reads no records and runs nothing: it counts none.
pub record FileEnds (question : Question) (name : List ℕ) (old new : Surroundings) (tally : Tally)
    (status : Status) : Type 0 where
  pub ends : Ends question name (outside_of old) (outside_of new) status
  pub unread : new.reads ≡ old.reads
  pub uncounted : IsNew tally

-- A command ended with this tally and this status.
abbrev pub CommandEnds : Surroundings → Surroundings → Tally → Status → Command → Type 0
CommandEnds old new tally status (Run plan options summary) =
    RunEnds (run_task plan options summary) old new tally status
CommandEnds old new tally status (Gen plan count options) =
    RunEnds (gen_task plan count options) old new tally status
CommandEnds old new tally status (Replay file) =
    FileEnds the_replay file.now old new tally status
CommandEnds old new tally status (Check file) =
    FileEnds the_check file.now old new tally status

-- Words that ask for nothing are told how the program is called: the shelf is asked for nothing,
-- nothing is read, nothing is done to out, and none is counted. The status stands also where notes
-- fail.
pub record UsageEnds (old new : Surroundings) (tally : Tally) (status : Status) : Type 0 where
  pub is : status ≡ Usage
  pub shelf_same : new.shelf ≡ old.shelf
  pub unbegun : IsUnbegun (streams_in old) (streams_in new)
  pub uncounted : IsNew tally
  pub told : Tells old.notes new.notes (note_of Usage)
  pub notes_handed_on : ¬ Rose old.notes.faults new.notes.faults → IsHandedOn old.notes new.notes
  pub notes_later : old.notes.faults ≤ new.notes.faults
