-- How the records, the operations and the lines stand to each other while a run goes on.
use Rattle.std.specs.Prelude.{◌≡◌, ◌≤◌, ℕ, ◌+◌, ◌-◌, false, List, [], ◌∷◌, ◌++◌, length, Option, Some, None, is_some}
use Rattle.atomic_table.specs.Seated.{TableId}
use Rattle.exec_value.specs.declared.data.Datum.{Datum}
use Rattle.exec_value.specs.declared.outcome.Outcome.{Outcome}
use Rattle.plan_shape.specs.Blueprint.{Blueprint}
use Rattle.record_lines.specs.Lines.{text_of}
use Rattle.record_loop.specs.declared.in_flight.InFlight.{InFlight}
use Rattle.record_loop.specs.declared.printer.Form.{Form}
use Rattle.record_loop.specs.declared.slot.Slot.{Slot}
use Rattle.record_loop.specs.declared.slot.Slot.TheVariants.{Running, Bad, NoMemory}
use Rattle.record_loop.specs.Printing.{Printed, HoldsAllBut}
use Rattle.record_loop.specs.Slots.{running_in}
use Rattle.record_loop.specs.Tallies.{TalliesWith, IsToldBy}
use Rattle.exec_io.specs.Views.{SinkView}
use Rattle.record_loop.specs.Works.{Work}
use Rattle.line_rules.specs.Lawful.{Terms, datum_of}
use Rattle.line_rules.specs.Moments.{Moment, is_asked_before, IsCaused, Licensed}
use Rattle.line_rules.specs.PlanTerms.{terms_of, MayRun}

-- How a run begins: its plan, the table on which its operations run, its window, its form, and what
-- its sink tells.
pub record Opening : Type 0 where
  pub plan : Blueprint
  pub table : TableId
  pub window : ℕ
  pub form : Form
  pub sink : SinkView

-- A run of these operations' plan begins so.
abbrev pub opened_by : Work → ℕ → Form → SinkView → Opening
opened_by work window form sink =
    record { plan = work.plan; table = work.table; window = window; form = form; sink = sink }

-- The terms of such a run.
abbrev pub terms_at : (Blueprint → Type 0) → Opening → Terms
terms_at WantsMemory opening = terms_of WantsMemory opening.plan opening.window

-- A ticket has the operation of the record of this number, which the line shows.
pub record IsBegun (terms : Terms) (work : Work) (moment : Option Moment) (number : ℕ)
    (line : List ℕ) (ticket : ℕ) : Type 0 where
  pub datum : Datum
  pub shows : datum_of terms.input line ≡ Some datum
  pub begun : work.tickets ticket
      ≡ Some (record { number = number; datum = datum; asked = is_asked_before moment number })

-- A slot stands for the record of this number: its operation has a ticket, or the line is no
-- record, or there was no memory for its datum.
abbrev pub StandsFor : Terms → Work → Option Moment → ℕ → List ℕ → Slot → Type 0
StandsFor terms work moment number line (Running ticket) =
    IsBegun terms work moment number line ticket
StandsFor terms work moment number line Bad = datum_of terms.input line ≡ None
StandsFor terms work moment number line NoMemory = terms.wants

-- Slots stand for these records, which come after `before` others.
abbrev pub StandForAll : Terms → Work → Option Moment → ℕ → List Slot → List (List ℕ) → Type 0
StandForAll terms work moment before [] [] = Unit {0}
StandForAll terms work moment before [] (line ∷ lines) = ⊥
StandForAll terms work moment before (slot ∷ slots) [] = ⊥
StandForAll terms work moment before (slot ∷ slots) (line ∷ lines) =
    StandsFor terms work moment (before + 1) line slot
    × StandForAll terms work moment (before + 1) slots lines

-- Of the records of these lines the first have outcomes, which are licensed and printed, and slots
-- stand for the rest. The request was made at the moment at which it was due, by the number of
-- records that were read. Those whose text doesn't stand whole in out, with those in the slots, are
-- a window at most: none was begun after a lost write. What was collected is told by the lines, and
-- as many operations run as slots have one.
pub record Standing (WantsMemory : Blueprint → Type 0) (opening : Opening) (read : ℕ)
    (lines : List (List ℕ)) (work : Work) (now : SinkView) (flight : InFlight) : Type 0 where
  pub outcomes : List Outcome
  pub front : List (List ℕ)
  pub back : List (List ℕ)
  pub moment : Option Moment
  pub split : lines ≡ front ++ back
  pub licensed : Licensed (terms_at WantsMemory opening) moment front outcomes
  pub waiting : StandForAll (terms_at WantsMemory opening) work moment (length outcomes)
      flight.slots.items back
  pub caused : IsCaused (terms_at WantsMemory opening).rules opening.window read outcomes moment
  pub printed : Printed opening.form opening.sink now flight.printer outcomes
  pub tallied : TalliesWith work.collected flight.printer.summary
  pub told : IsToldBy opening.plan opening.table outcomes work.collected
  pub running : work.running ≡ running_in flight.slots.items
  pub requested : work.requested ≡ is_some moment
  pub known : flight.requested ≡ is_some moment
  pub plan_is : work.plan ≡ opening.plan
  pub table_is : work.table ≡ opening.table
  pub settings_are : flight.settings ≡ opening.plan.settings
  pub window_is : flight.slots.capacity ≡ opening.window
  pub fits : length flight.slots.items ≤ opening.window
  pub held : HoldsAllBut (opening.window - length flight.slots.items) opening.form opening.sink now
      outcomes
  pub may_run : MayRun opening.plan.settings

-- The next record is counted, and in no slot yet. A request that was made came before it is begun.
pub record CountedNext (WantsMemory : Blueprint → Type 0) (opening : Opening)
    (lines : List (List ℕ))
    (work : Work) (now : SinkView) (flight : InFlight) : Type 0 where
  pub standing : Standing WantsMemory opening (length lines + 1) lines work now flight
  pub early : (moment : Moment) → standing.moment ≡ Some moment → moment.first ≤ length lines + 1

-- What a call sees of a run: the operations, the sink, and the records in flight.
pub record RunState : Type 0 where
  pub work : Work
  pub sink : SinkView
  pub flight : InFlight

abbrev pub at : Work → SinkView → InFlight → RunState
at work sink flight = record { work = work; sink = sink; flight = flight }

-- The run stands so, with all records of these lines in it.
abbrev pub StandsAt : (Blueprint → Type 0) → Opening → List (List ℕ) → RunState → Type 0
StandsAt WantsMemory opening lines run =
    Standing WantsMemory opening (length lines) lines run.work run.sink run.flight

-- The run stands so, and the next record is counted.
abbrev pub CountsAt : (Blueprint → Type 0) → Opening → List (List ℕ) → RunState → Type 0
CountsAt WantsMemory opening lines run =
    CountedNext WantsMemory opening lines run.work run.sink run.flight

-- A run goes on.
pub record IsGoing (WantsMemory : Blueprint → Type 0) (run : RunState) : Type 0 where
  pub opening : Opening
  pub lines : List (List ℕ)
  pub standing : StandsAt WantsMemory opening lines run

-- A run goes on, over some sink.
pub record MayTake (WantsMemory : Blueprint → Type 0) (work : Work)
    (flight : InFlight) : Type 0 where
  pub sink : SinkView
  pub going : IsGoing WantsMemory (at work sink flight)

-- A run that stands so before a call stands so afterwards, with the same records.
abbrev pub StaysStanding : (Blueprint → Type 0) → RunState → RunState → Type 0
StaysStanding WantsMemory old new =
    (opening : Opening) (lines : List (List ℕ)) → StandsAt WantsMemory opening lines old
    → StandsAt WantsMemory opening lines new

-- It stands so, with the next record counted.
abbrev pub CountsNext : (Blueprint → Type 0) → RunState → RunState → Type 0
CountsNext WantsMemory old new =
    (opening : Opening) (lines : List (List ℕ)) → StandsAt WantsMemory opening lines old
    → CountsAt WantsMemory opening lines new

-- The counted record, of a line with this text, may be begun and is in flight.
abbrev pub BeginsNext : (Blueprint → Type 0) → Option (List ℕ) → RunState → RunState → Type 0
BeginsNext WantsMemory text old new =
    (opening : Opening) (lines : List (List ℕ)) (line : List ℕ) → text ≡ text_of line
    → old.flight.printer.lost ≡ false → CountsAt WantsMemory opening lines old
    → StandsAt WantsMemory opening (lines ++ line ∷ []) new

-- The run stands so with the record of a line more, whose text this is, and which may be begun.
abbrev pub Takes : (Blueprint → Type 0) → Option (List ℕ) → RunState → RunState → Type 0
Takes WantsMemory text old new =
    (opening : Opening) (lines : List (List ℕ)) (line : List ℕ) → text ≡ text_of line
    → old.flight.printer.lost ≡ false → StandsAt WantsMemory opening lines old
    → StandsAt WantsMemory opening (lines ++ line ∷ []) new
