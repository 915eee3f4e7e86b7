-- What is asked of a file, and what is answered.
use Rattle.std.specs.Prelude.{◌≡◌, ◌⊎◌, ℕ, ◌<◌, ◌≤◌, List, length, Option, codes, Result, Ok, Err}
use Rattle.exec_io.specs.Shelves.{Texts, Gives}
use Rattle.exec_status.specs.declared.status.Status.{Status}
use Rattle.exec_status.specs.declared.status.Status.TheVariants.{AllValues, NotAllValues, PlanRefused, WriteFault}
use Rattle.exec_io.specs.Views.{SinkView}
use Rattle.exec_status.specs.Sinks.{TellsAll, TellsFront, numbered}
use Rattle.trace_text.specs.declared.limits.TheConstants.{FILE_BYTES}
use Rattle.trace_text.specs.Reading.{trace_in, schedule_in}
use Rattle.trace_text.specs.Texts.{trace_text}
use Rattle.trace_text.specs.Values.{TraceValue, ScheduleValue}
use Rattle.replay_core.specs.declared.check.Verdict.{Verdict}
use Rattle.replay_core.specs.declared.check.Verdict.TheVariants.{Taken, Refused}
use Rattle.replay_core.specs.Replays.{trace_of}
use Rattle.replay_core.specs.Traces.{AreSound}
use Rattle.replay_core.specs.Verdicts.{IsVerdict}
use Rattle.trace_commands.specs.declared.file.Refusal.{Refusal}
use Rattle.trace_commands.specs.declared.file.Refusal.TheVariants.{TooLong, Line}

-- What is asked of a file: which bytes are refused for which cause, and with which status and text
-- others are answered.
pub record Question : Type 1 where
  pub refuses : List ℕ → Refusal → Type 0
  pub answers : List ℕ → Status → List ℕ → Type 0

-- Bytes that are too long are refused, and so are others by their first line that can't be read.
abbrev pub IsRefused : {A : Type 0} → (List ℕ → Result A ℕ) → List ℕ → Refusal → Type 0
IsRefused read bytes TooLong = FILE_BYTES < length bytes
IsRefused read bytes (Line n) = (length bytes ≤ FILE_BYTES) × (read bytes ≡ Err n)

-- The line of a verdict: the number of entries, or of the first that is no step.
abbrev pub verdict_text : Verdict → List ℕ
verdict_text (Taken n) = numbered (codes "ok ") n
verdict_text (Refused e) = numbered (codes "refused ") e

abbrev pub verdict_status : Verdict → Status
verdict_status (Taken n) = AllValues
verdict_status (Refused e) = NotAllValues

-- The bytes are a trace, and the check of it answers so. Where each entry is a step, each state
-- along the trace is sound.
pub record IsChecked (bytes : List ℕ) (status : Status) (text : List ℕ) : Type 0 where
  pub short : length bytes ≤ FILE_BYTES
  pub trace : TraceValue
  pub read : trace_in bytes ≡ Ok trace
  pub verdict : Verdict
  pub is : IsVerdict trace verdict
  pub sound : (n : ℕ) → verdict ≡ Taken n → AreSound trace
  pub status_is : status ≡ verdict_status verdict
  pub text_is : text ≡ verdict_text verdict

-- The bytes are a schedule, and its trace is the answer.
pub record IsReplayed (bytes : List ℕ) (status : Status) (text : List ℕ) : Type 0 where
  pub short : length bytes ≤ FILE_BYTES
  pub schedule : ScheduleValue
  pub read : schedule_in bytes ≡ Ok schedule
  pub status_is : status ≡ AllValues
  pub text_is : text ≡ trace_text (trace_of schedule)

abbrev pub the_check : Question
the_check = record { refuses = IsRefused trace_in; answers = IsChecked }

abbrev pub the_replay : Question
the_replay = record { refuses = IsRefused schedule_in; answers = IsReplayed }

-- The shelf gave bytes under the name that are answered so.
pub record HasAnswer (question : Question) (texts : Option Texts) (name : List ℕ) (status : Status)
    (text : List ℕ) : Type 0 where
  pub bytes : List ℕ
  pub given : Gives FILE_BYTES texts name bytes
  pub answer : question.answers bytes status text

-- The check answers the bytes, or the file of this name, with this verdict.
abbrev pub IsVerdictOn : List ℕ → Verdict → Type 0
IsVerdictOn bytes verdict = IsChecked bytes (verdict_status verdict) (verdict_text verdict)

abbrev pub HasVerdict : Option Texts → List ℕ → Verdict → Type 0
HasVerdict texts name verdict =
    HasAnswer the_check texts name (verdict_status verdict) (verdict_text verdict)

-- The replay answers the file of this name with this text.
abbrev pub HasTrace : Option Texts → List ℕ → List ℕ → Type 0
HasTrace texts name text = HasAnswer the_replay texts name AllValues text

-- The status that is due to a file with these bytes: that of the answer, or of the refusal.
abbrev pub IsDue : Question → List ℕ → Status → Type 0
IsDue question bytes status =
    ((text : List ℕ) × question.answers bytes status text)
    ⊎ (((refusal : Refusal) × question.refuses bytes refusal) × (status ≡ PlanRefused))

-- The whole text was told, and the status is the one that is due; or a front of it was, and the
-- sink failed.
pub data Prints (due : Status) (text : List ℕ) (old new : SinkView) : Status → Type 0 where
  whole : TellsAll old new text → Prints due text old new due
  front : TellsFront old new text → Prints due text old new WriteFault
