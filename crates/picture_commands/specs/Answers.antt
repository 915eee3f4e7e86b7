-- What is asked of a file, and what is answered.
use Rattle.std.specs.Prelude.{◌≡◌, ◌≢◌, ◌≤◌, ℕ, Bool, List, length, Option, Some, None, Ok, if◌then◌else◌}
use Rattle.exec_io.specs.Shelves.{Texts}
use Rattle.exec_status.specs.declared.status.Status.{Status}
use Rattle.exec_status.specs.declared.status.Status.TheVariants.{AllValues, NotAllValues}
use Rattle.notation_answers.specs.declared.answer.Written.{Written}
use Rattle.notation_answers.specs.Answers.{IsAnswerOf, IsTextOf}
use Rattle.plan_shape.specs.Blueprint.{Blueprint}
use Rattle.plan_kinds.specs.declared.sig.Sig.{Sig}
use Rattle.pictures.specs.Plans.Picture.{picture_of}
use Rattle.plan_places.specs.declared.refusal.Refusal.{Refusal}
use Rattle.plan_places.specs.Refusals.{IsRefusal}
use Rattle.plan_reader.specs.declared.fault.PlanFault.{PlanFault}
use Rattle.plan_reader.specs.declared.fault.PlanFault.TheVariants.{NoMemory}
use Rattle.plan_reader.specs.PlanFile.{IsPlanOf, IsFaultOf}
use Rattle.replay_core.specs.declared.check.Verdict.{Verdict}
use Rattle.replay_core.specs.declared.check.Verdict.TheVariants.{Taken, Refused}
use Rattle.replay_core.specs.Verdicts.{IsVerdict}
use Rattle.show_words.specs.declared.asked.Rows.{Rows}
use Rattle.sig_check.specs.Checked.{AreSignatures}
use Rattle.trace_commands.specs.Answers.{HasAnswer, IsRefused, Question}
use Rattle.pictures.specs.declared.traces.shown.Shown.{Shown}
use Rattle.pictures.specs.Traces.Picture as trace_picture
use Rattle.trace_reasons.specs.Explaining.{Explains}
use Rattle.trace_text.specs.declared.limits.TheConstants.{FILE_BYTES}
use Rattle.trace_text.specs.Reading.{trace_in}
use Rattle.trace_text.specs.Values.{TraceValue}
use Rattle.picture_commands.specs.declared.answer.Answer.{Answer}
use Rattle.picture_commands.specs.Reasons.{reason_line}

-- The status of an answer: whether it is a picture, or tells of a trace that was taken.
abbrev pub status_of : Bool → Status
status_of drawn = if drawn then AllValues else NotAllValues

-- The text is the picture of the plan, by the signatures of its nodes.
pub record IsDrawingOf (plan : Blueprint) (text : List ℕ) : Type 0 where
  pub sigs : List Sig
  pub are : AreSignatures plan sigs
  pub text_is : text ≡ picture_of plan.nodes sigs

-- The bytes are a plan, and its picture is the answer.
pub record IsDrawn (bytes text : List ℕ) : Type 0 where
  pub plan : Blueprint
  pub is : IsPlanOf bytes plan
  pub shows : IsDrawingOf plan text

-- The bytes are refused for a cause, and the answer says for which, and where.
pub record IsReasoned (bytes text : List ℕ) : Type 0 where
  pub fault : PlanFault
  pub cause : fault ≢ NoMemory
  pub is : IsFaultOf bytes fault
  pub refusal : Refusal
  pub tells : IsRefusal bytes fault refusal
  pub text_is : text ≡ reason_line refusal

-- The bytes of a plan file are answered with this status and text: as those of a plan, or as those
-- of one that is refused.
abbrev pub IsPlanAnswer : (List ℕ → List ℕ → Type 0) → List ℕ → Status → List ℕ → Type 0
IsPlanAnswer Shows bytes AllValues text = Shows bytes text
IsPlanAnswer Shows bytes NotAllValues text = IsReasoned bytes text
IsPlanAnswer Shows bytes status text = ⊥

-- Each file has an answer: a refusal is one.
abbrev pub the_plan : Question
the_plan = record { refuses = λ bytes refusal. ⊥; answers = IsPlanAnswer IsDrawn }

-- The bytes are a plan, and the answer is the plan in the notation.
pub record IsInNotation (bytes text : List ℕ) : Type 0 where
  pub plan : Blueprint
  pub is : IsPlanOf bytes plan
  pub shows : IsTextOf plan text

abbrev pub the_text : Question
the_text = record { refuses = λ bytes refusal. ⊥; answers = IsPlanAnswer IsInNotation }

-- The bytes are a text in the notation, and the answer is its plan, or where and why it is none.
pub record IsTextAnswer (bytes : List ℕ) (status : Status) (text : List ℕ) : Type 0 where
  pub written : Written
  pub is : IsAnswerOf bytes written
  pub status_is : status ≡ status_of written.is_plan
  pub text_is : text ≡ written.text.items

abbrev pub the_write : Question
the_write = record { refuses = λ bytes refusal. ⊥; answers = IsTextAnswer }

-- What a picture shows of a trace: these rows, and the mark of the entry that is refused.
abbrev pub refused_of : Verdict → Option ℕ
refused_of (Taken n) = None
refused_of (Refused e) = Some e

abbrev pub shown_for : Rows → Verdict → Shown
shown_for rows verdict = record {
  first = rows.first;
  last = rows.last;
  refused = if rows.refused then refused_of verdict else None;
}

-- The text is the picture of these rows of the trace.
pub record IsPictureOf (trace : TraceValue) (rows : Rows) (text : List ℕ) : Type 0 where
  pub verdict : Verdict
  pub is : IsVerdict trace verdict
  pub text_is : text ≡ trace_picture.picture_of trace (shown_for rows verdict)

-- The bytes are a trace, and its picture is the answer.
pub record IsTraceDrawn (rows : Rows) (bytes : List ℕ) (status : Status) (text : List ℕ)
    : Type 0 where
  pub short : length bytes ≤ FILE_BYTES
  pub trace : TraceValue
  pub read : trace_in bytes ≡ Ok trace
  pub status_is : status ≡ AllValues
  pub picture : IsPictureOf trace rows text

-- A file that is no trace has none: it is refused as it is by a check.
abbrev pub the_trace : Rows → Question
the_trace rows = record { refuses = IsRefused trace_in; answers = IsTraceDrawn rows }

-- The bytes are a trace, and the answer says why an entry is refused, or what is open at its end.
pub record IsExplained (bytes : List ℕ) (status : Status) (text : List ℕ) : Type 0 where
  pub short : length bytes ≤ FILE_BYTES
  pub trace : TraceValue
  pub read : trace_in bytes ≡ Ok trace
  pub taken : Bool
  pub explains : Explains trace taken text
  pub status_is : status ≡ status_of taken

-- A file that is no trace is refused as it is by a check.
abbrev pub the_why : Question
the_why = record { refuses = IsRefused trace_in; answers = IsExplained }

-- This is what bytes, or the file of this name, are answered.
abbrev pub IsShownAs : Question → List ℕ → Answer → Type 0
IsShownAs question bytes answer =
    question.answers bytes (status_of answer.drawn) answer.text.items

abbrev pub HasShown : Question → Option Texts → List ℕ → Answer → Type 0
HasShown question texts name answer =
    HasAnswer question texts name (status_of answer.drawn) answer.text.items
