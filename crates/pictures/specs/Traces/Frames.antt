-- Which rows are shown.
use Rattle.std.specs.Prelude.{ℕ, ◌-◌, Bool, ◌&&◌, length, min, nat_le, nat_lt}
use Rattle.trace_text.specs.Values.{TraceValue}
use Rattle.pictures.specs.declared.traces.frame.Frame.{Frame}
use Rattle.pictures.specs.declared.traces.shown.Shown.{Shown}
use Rattle.pictures.specs.Traces.Layout.{row_y}

-- what is shown of a trace; the entries of `Shown` are numbered from 1, and here from 0
abbrev pub shown_frame : TraceValue → Shown → Frame
shown_frame trace shown = record {
  blocks = trace.opening.blocks;
  from = shown.first - 1;
  to = min shown.last (length trace.entries);
}

-- the entry of this number is shown
abbrev pub is_shown : Frame → ℕ → Bool
is_shown frame n = nat_le frame.from n && nat_lt n frame.to

-- how many rows are shown
abbrev pub rows_shown : Frame → ℕ
rows_shown frame = frame.to - frame.from

-- where the row of an entry begins
abbrev pub row_top : Frame → ℕ → ℕ
row_top frame n = row_y (n - frame.from)
