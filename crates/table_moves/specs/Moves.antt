-- A call's step is one move of the pure machine: what the words and views show is the state before
-- the move and the state after it.
use Rattle.std.specs.Prelude.{◌≡◌, ℕ, true, List, [], ◌∷◌, slice_index, slice_set, Option}
use Rattle.life_rules.specs.declared.event.Name.{Name}
use Rattle.life_rules.specs.declared.event.Place.{Place}
use Rattle.life_rules.specs.declared.event.Resting.{Resting}
use Rattle.life_rules.specs.declared.event.Event.{Event}
use Rattle.life_rules.specs.declared.event.Event.TheVariants.{Begin, Take, Rest, Await, Finish, Report as report, Rouse}
use Rattle.life_rules.specs.declared.words.ControlWord.TheVariants.{Busy, Parked}
use Rattle.life_rules.specs.Words.{resting_at}
use Rattle.life_rules.specs.Steps.{Step}
use Rattle.atomic_table.specs.Table as table
use Rattle.atomic_table.specs.declared.shared.Seat.{Seat}
use Rattle.table_rules.specs.declared.cargo.Cargo.{Ghosts}
use Rattle.table_rules.specs.declared.frame.Frame.{Frame}
use Rattle.table_rules.specs.declared.view.View.{View}
use Rattle.table_rules.specs.Scenes.{shown}
use Rattle.table_rules.specs.Running.{Running}
use Rattle.table_steps.specs.Views.{Board, IsHandOf, IsPlaceIn, aim_at, knows}
use Rattle.table_steps.specs.Claims.{logged}
use Rattle.table_steps.specs.Seats.{Seated}
use Rattle.table_steps.specs.Begins.{CanBegin}
use Rattle.table_steps.specs.Lefts.{SaysControl}
use Rattle.table_steps.specs.Takes.{MayServe, TakenAt}
use Rattle.table_steps.specs.Rests.{CanRest}
use Rattle.table_steps.specs.declared.report.Report.{Report}
use Rattle.table_steps.specs.declared.report.Report.TheVariants.{Last, Others}
use Rattle.table_steps.specs.Readings.{above_it}
use Rattle.table_steps.specs.Reports.{CanReport, IsReportedAs}
use Rattle.table_steps.specs.Rouses.{MayRouse, IsRoused}
use Rattle.table_steps.specs.Awaits.{CanAwait}
use Rattle.table_steps.specs.Finishes.{CanEnd}
use Rattle.table_steps.specs.Steps.{control_index, Begun, Rested, Awaited, Finished}
use Rattle.table_laws.specs.Laws.{Has}

-- the node's place
abbrev pub place_of : Name → Place
place_of x = record { block = x.block; node = x.node }

-- at the step the word of this index was the one number and became the other, and the view of the
-- hand with this number became the new one. All other words and views are as they were
pub record HasStepped {P E : Type 0} (at read left id : ℕ) (v v' : View P E)
    (s s' : table.State (Option P) (View P E)) : Type 0 where
  pub before : Has s id v
  pub read_is : slice_index s.words at ≡ read
  pub words_are : s'.words ≡ slice_set s.words at left
  pub views_are : s'.views ≡ slice_set s.views id v'

module _ {P E O : Type 0} (cargo : Ghosts P E O) (f : Frame O) (id : ℕ) (v v' : View P E)
    (at read left : ℕ) where
  -- the step is this move of the hand, in each table that keeps the rule
  abbrev pub IsMove : Event → Type 0
  IsMove event =
      (s s' : table.State (Option P) (View P E)) → Running cargo f s →
      HasStepped at read left id v v' s s' →
      Step (shown f s) id event (shown f s')

  -- the step moves nothing
  abbrev pub IsNoMove : Type 0
  IsNoMove =
      (s s' : table.State (Option P) (View P E)) → Running cargo f s →
      HasStepped at read left id v v' s s' →
      shown f s' ≡ shown f s

-- what a hand knows, beside the slots that it carries
abbrev pub known : {P E : Type 0} → Seated P E → View P E
known (view, _) = view

module _ {P E O : Type 0} (cargo : Ghosts P E O) where
  -- a load that is listed, and changes nothing else, moves nothing
  abbrev pub LoadsMoveNothing : Type 0
  LoadsMoveNothing =
      (f : Frame O) (id at found : ℕ) (v : View P E) →
      IsNoMove cargo f id v (logged at found v) at found found

  -- where a node begins, after its source was renewed
  abbrev pub BeginsByMove : Type 0
  BeginsByMove =
      (board : Board O) (x : Name) (old new : Seat (Option P) (View P E)) →
      CanBegin cargo board.frame old.me x →
      (did : Begun board x old new cargo) →
      IsMove cargo board.frame old.id (known did.middle) (knows new) (control_index board x)
      did.began.read did.began.left
      (Begin (place_of x))

  -- where it is taken from where it rests
  abbrev pub TakesByMove : Type 0
  TakesByMove =
      (board : Board O) (x : Name) (from : Resting) (old new : Seat (Option P) (View P E))
      (read left : ℕ) →
      IsPlaceIn board x → MayServe from (knows old) → SaysControl x (resting_at from) read →
      SaysControl x (Busy 0) left →
      TakenAt cargo (aim_at board x) (board.frame.over.value ∷ []) (control_index board x) read
      left old.me new.me →
      IsMove cargo board.frame old.id (knows old) (knows new) (control_index board x) read left
      (Take (place_of x))

  -- where it is left at rest
  abbrev pub RestsByMove : Type 0
  RestsByMove =
      (board : Board O) (x : Name) (to : Resting) (old new : Seat (Option P) (View P E)) →
      IsHandOf board old → CanRest cargo board.frame old.me x → (did : Rested board x old new to) →
      IsMove cargo board.frame old.id (knows old) (knows new) (control_index board x) did.read
      did.left (Rest (place_of x) to)

  -- where it awaits children
  abbrev pub AwaitsByMove : Type 0
  AwaitsByMove =
      (board : Board O) (x : Name) (nodes : List ℕ) (old new : Seat (Option P) (View P E)) →
      IsHandOf board old → CanAwait cargo board.frame old.me x nodes →
      (did : Awaited board x old new cargo nodes) →
      IsMove cargo board.frame old.id (knows old) (knows new) (control_index board x) did.read
      did.left (Await (place_of x) nodes)

  -- where it finishes
  abbrev pub FinishesByMove : Type 0
  FinishesByMove =
      (board : Board O) (x : Name) (old new : Seat (Option P) (View P E)) →
      IsHandOf board old → CanEnd cargo board.frame old.me x →
      (did : Finished board x old new cargo) →
      IsMove cargo board.frame old.id (knows old) (knows new) (control_index board x) did.read
      did.left (Finish (place_of x))

  -- the word of the parent that a report read, and the one that it left
  abbrev pub report_read : (f : Frame O) (child : Name) (m m' : Seated P E) (answer : Report) →
      IsReportedAs cargo f child answer m m' → ℕ
  report_read f child m m' Last (read, _, _, _, _) = read
  report_read f child m m' Others (read, _, _, _, _) = read

  abbrev pub report_left : (f : Frame O) (child : Name) (m m' : Seated P E) (answer : Report) →
      IsReportedAs cargo f child answer m m' → ℕ
  report_left f child m m' Last (_, left, _, _, _) = left
  report_left f child m m' Others (_, left, _, _, _) = left

  -- where a child is reported to its parent
  abbrev pub ReportsByMove : Type 0
  ReportsByMove =
      (board : Board O) (child : Name) (answer : Report) (old new : Seat (Option P) (View P E)) →
      CanReport board.frame.tree (knows old) child →
      (did : IsReportedAs cargo board.frame child answer old.me new.me) →
      IsMove cargo board.frame old.id (knows old) (knows new)
      (control_index board (above_it board.frame.tree child))
      (report_read board.frame child old.me new.me answer did)
      (report_left board.frame child old.me new.me answer did)
      (report (place_of child))

  -- where a parked node is woken
  abbrev pub RousesByMove : Type 0
  RousesByMove =
      (board : Board O) (x : Name) (old new : Seat (Option P) (View P E)) → IsPlaceIn board x →
      MayRouse (knows old) x →
      (did : IsRoused board x true old new) → SaysControl x Parked did.word →
      IsMove cargo board.frame old.id (knows old) (knows new) (control_index board x) did.word
      did.left (Rouse (place_of x))
