-- What a run leaves of the front by which it worked.
use Rattle.std.specs.Prelude.{◌≡◌, ℕ, List, length, Option, IfOk, OnErr}
use Rattle.atomic_table.specs.declared.shared.Seat.{Seat}
use Rattle.exec_io.specs.Views.{SinkView, SourceView}
use Rattle.home_items.specs.declared.entry.Entry.{Entry}
use Rattle.home_items.specs.declared.item.Item.{Item}
use Rattle.plan_shape.specs.Blueprint.{Blueprint}
use Rattle.record_loop.specs.ReadStarts.{ReadStart}
use Rattle.record_loop.specs.Standing.{Opening}
use Rattle.table_rules.specs.declared.view.View.{View}
use Rattle.record_operations.specs.Ends.{IsEnded}
use Rattle.record_operations.specs.Worked.{HasWorked}
use Rattle.table_steps.specs.Views.{Board, knows}
use Rattle.whole_run.specs.Endings.{EndsLines, IsUnbegun, Streams, begins, streams}
use Rattle.whole_run.specs.Opened.{CanRunOn, IsFreshHand}
use Rattle.whole_run.specs.declared.front.LinesFront.{LinesFront}
use Rattle.whole_run.specs.declared.working.Came.{Came}

-- A run may begin on this hand, which is fresh.
pub record MayBeginOn (board : Board Blueprint) (plan : Blueprint) (window : ℕ)
    (stepped : Blueprint)
    (hand : Seat (Option Item) (View Item Entry)) : Type 0 where
  pub runs : CanRunOn board plan window stepped
  pub fresh : IsFreshHand board hand

-- The run ended on the hand of this table.
abbrev pub IsEndedOn : Board Blueprint → Seat (Option Item) (View Item Entry) → Type 0
IsEndedOn board hand = IsEnded (λ other. other ≡ board) hand

-- What a run on hand 0 came to, with so many blocks claimed. Where there was memory for it lines
-- are answered, and a block was claimed for each operation that was collected, and for those that
-- `ahead` nodes spawned. Else nothing was read and nothing written.
pub record CameOut (opening : Opening) (before after : Streams) (came : Came) (claimed : ℕ)
    : Type 0 where
  pub ends : IfOk came.answer (EndsLines opening before after came.tally)
  pub unbegun : OnErr came.answer (IsUnbegun before after)
  pub worked : IfOk came.answer (λ _. HasWorked opening.plan (length came.tally) claimed)

-- What the source and the sink of a front tell.
abbrev pub streams_of : {B T S K : Type 0} → (S → SourceView) → (S → Option (List ReadStart))
    → (K → SinkView) → LinesFront B T S K → Streams
streams_of source reads sink front =
    streams (source front.records.now) (reads front.records.now) (sink front.out.now)

-- How a front begins.
abbrev pub opening_by : {B T S K : Type 0} → (K → SinkView) → LinesFront B T S K → Opening
opening_by sink front =
    begins front.on.plan.now front.on.table.now.table_id front.on.window front.on.form
    (sink front.out.now)

-- The records of the source were run, and the front has the same source and sink.
pub record LeavesLines {B T S K : Type 0} (source : S → SourceView)
    (reads : S → Option (List ReadStart)) (sink : K → SinkView) (old new : LinesFront B T S K)
    (hand : Seat (Option Item) (View Item Entry)) : Type 0 where
  pub same_source : new.records.ghost_name ≡ old.records.ghost_name
  pub same_sink : new.out.ghost_name ≡ old.out.ghost_name
  pub same_came : new.came.ghost_name ≡ old.came.ghost_name
  pub out : CameOut (opening_by sink old) (streams_of source reads sink old)
      (streams_of source reads sink new) new.came.now (knows hand).claimed
  pub ended : IsEndedOn old.on.table.now hand
