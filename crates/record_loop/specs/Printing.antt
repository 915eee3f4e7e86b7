-- What a printer has written.
use Rattle.std.specs.Prelude.{◌≡◌, ◌⊎◌, ℕ, ◌≤◌, Bool, true, false, List, [], ◌∷◌, ◌++◌, length, Option}
use Rattle.exec_io.specs.Causes.{Rose}
use Rattle.exec_io.specs.Sinks.{Appends}
use Rattle.outcome_lines.specs.Line.{text_from}
use Rattle.outcome_lines.specs.Summary.{summary_of}
use Rattle.exec_io.specs.Writing.{AppendsFront}
use Rattle.exec_value.specs.declared.outcome.Outcome.{Outcome}
use Rattle.line_summary.specs.Counting.{Summarizes}
use Rattle.line_summary.specs.declared.summary.Summary.{Summary as SummaryCounts}
use Rattle.record_loop.specs.declared.printer.Form.{Form}
use Rattle.record_loop.specs.declared.printer.Form.TheVariants.{Lines, Summary}
use Rattle.record_loop.specs.declared.printer.Printer.{Printer}
use Rattle.exec_io.specs.Views.{SinkView}
use Rattle.exec_io.specs.Untouched.{IsHandedOn}

-- Since the start this text was written, or a front of it where a write was lost. Where nothing is
-- due, what was written is handed on.
pub record Wrote (text : List ℕ) (start now : SinkView) (due lost : Bool) : Type 0 where
  pub part : AppendsFront start.written now.written text
  pub whole : lost ≡ false → Appends start.written now.written text
  pub handed_on : lost ≡ false → due ≡ false → IsHandedOn start now
  pub cause : lost ≡ true → Rose start.faults now.faults
  pub still : lost ≡ false → now.faults ≡ start.faults
  pub later : start.faults ≤ now.faults

-- What stands on out while outcomes come: their lines; or nothing, where a summary is to come.
abbrev pub text_so_far : Form → List Outcome → List ℕ
text_so_far Lines outcomes = text_from 1 outcomes
text_so_far Summary outcomes = []

-- What stands there once all have come.
abbrev pub text_of : Form → List Outcome → List ℕ
text_of Lines outcomes = text_from 1 outcomes
text_of Summary outcomes = summary_of outcomes

-- What is told afterwards was told before, and has grown by this text, and maybe by more.
pub record AppendsAtLeast (old new : Option (List ℕ)) (text : List ℕ) : Type 0 where
  pub more : List ℕ
  pub grown : Appends old new (text ++ more)

-- Since the start the text of these outcomes was written whole, but of the last ones, which are
-- `most` at most. Where a summary is to come, no text is due.
pub record HoldsAllBut (most : ℕ) (form : Form) (start now : SinkView) (outcomes : List Outcome)
    : Type 0 where
  pub whole : List Outcome
  pub rest : List Outcome
  pub split : outcomes ≡ whole ++ rest
  pub few : length rest ≤ most
  pub held : AppendsAtLeast start.written now.written (text_so_far form whole)

-- All records are taken: no write was lost, or none is made before all are taken.
abbrev pub KeepsTaking : Form → Bool → Type 0
KeepsTaking form lost = (lost ≡ false) ⊎ (form ≡ Summary)

-- The printer has written nothing: nothing is to be handed on, and nothing is lost.
pub record HasWrittenNone (printer : Printer) : Type 0 where
  pub due : printer.due ≡ false
  pub lost : printer.lost ≡ false

-- Since the start the printer has printed these outcomes. Where a summary is to come it has written
-- nothing.
pub record Printed (form : Form) (start now : SinkView) (printer : Printer)
    (outcomes : List Outcome) : Type 0 where
  pub form_is : printer.form ≡ form
  pub counted : Summarizes printer.summary outcomes
  pub wrote : Wrote (text_so_far form outcomes) start now printer.due printer.lost
  pub none : form ≡ Summary → HasWrittenNone printer

-- These outcomes are printed, with all that belongs to them, and handed on; or a write was lost.
pub record Finished (form : Form) (start now : SinkView) (summary : SummaryCounts) (lost : Bool)
    (outcomes : List Outcome) : Type 0 where
  pub counted : Summarizes summary outcomes
  pub wrote : Wrote (text_of form outcomes) start now false lost

-- What a call sees of a printer: the sink, and the printer itself.
pub record PrinterState : Type 0 where
  pub sink : SinkView
  pub printer : Printer

abbrev pub over : SinkView → Printer → PrinterState
over sink printer = record { sink = sink; printer = printer }

-- The outcomes that were printed are printed afterwards, and this one after them.
abbrev pub PrintsNext : Outcome → PrinterState → PrinterState → Type 0
PrintsNext outcome old new =
    (form : Form) (start : SinkView) (outcomes : List Outcome)
    → Printed form start old.sink old.printer outcomes
    → Printed form start new.sink new.printer (outcomes ++ outcome ∷ [])

-- Each text that was written is written afterwards.
abbrev pub KeepsWritten : PrinterState → PrinterState → Type 0
KeepsWritten old new =
    (text : List ℕ) (start : SinkView) → Wrote text start old.sink old.printer.due old.printer.lost
    → Wrote text start new.sink new.printer.due new.printer.lost

-- The outcomes that were printed are all, and what is to come after them is written.
abbrev pub WritesRest : PrinterState → PrinterState → Type 0
WritesRest old new =
    (form : Form) (start : SinkView) (outcomes : List Outcome)
    → Printed form start old.sink old.printer outcomes
    → Wrote (text_of form outcomes) start new.sink new.printer.due new.printer.lost

-- The outcomes that were printed are all, and finished.
abbrev pub FinishesAll : PrinterState → SinkView → SummaryCounts → Bool → Type 0
FinishesAll old now summary lost =
    (form : Form) (start : SinkView) (outcomes : List Outcome)
    → Printed form start old.sink old.printer outcomes
    → Finished form start now summary lost outcomes

-- Where outcomes were printed, all that out held is there afterwards, and maybe more.
abbrev pub OnlyAppends : PrinterState → SinkView → Type 0
OnlyAppends old now =
    (form : Form) (start : SinkView) (outcomes : List Outcome)
    → Printed form start old.sink old.printer outcomes
    → AppendsAtLeast old.sink.written now.written []
