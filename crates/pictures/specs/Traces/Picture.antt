-- The picture of a trace.
use Rattle.std.specs.Prelude.{ℕ, List, [], ◌++◌, length, max, slice_get, codes, Option}
use Rattle.std.specs.List.{flat_map, fold, range_with_len}
use Rattle.std.specs.Option.{option_map_or}
use Rattle.trace_text.specs.declared.entry.Entry.{Entry}
use Rattle.trace_text.specs.Values.{TraceValue}
use Rattle.pictures.specs.declared.traces.frame.Frame.{Frame}
use Rattle.pictures.specs.declared.traces.shown.Shown.{Shown}
use Rattle.pictures.specs.Traces.Bars.{bar_at}
use Rattle.pictures.specs.Traces.Frames.{shown_frame, rows_shown}
use Rattle.pictures.specs.Traces.Headings.{column_text, head_text, lane_text, legend_text}
use Rattle.pictures.specs.Traces.Layout.{height_of, width_of}
use Rattle.pictures.specs.Traces.Rows.{length_at, shown_row}

-- how many bytes the text of the entry of this number has, where it is shown
abbrev pub shown_length : Frame → List Entry → ℕ → ℕ
shown_length frame entries n = option_map_or (length_at frame n) (slice_get entries n) 0

-- the length of the longest text of an entry that is shown
abbrev pub longest : Frame → List Entry → ℕ
longest frame entries =
    fold (λ most n. max (shown_length frame entries n) most) 0 (range_with_len 0 (length entries))

-- the headings of the columns of blocks
abbrev pub columns_text : ℕ → List ℕ
columns_text blocks = flat_map column_text (range_with_len 0 blocks)

-- the lanes of hands, and their headings
abbrev pub lanes_text : Frame → ℕ → List ℕ
lanes_text frame hands = flat_map (lane_text frame) (range_with_len 0 hands)

-- what is shown of the bars
abbrev pub bars_text : Frame → List Entry → List ℕ
bars_text frame entries = flat_map (bar_at frame entries) (range_with_len 0 (length entries))

-- the row of the entry of this number, where it is shown
abbrev pub row_of : Frame → Option ℕ → List Entry → ℕ → List ℕ
row_of frame refused entries n = option_map_or (shown_row frame refused n) (slice_get entries n) []

-- the rows of the entries that are shown
abbrev pub rows_text : Frame → Option ℕ → List Entry → List ℕ
rows_text frame refused entries =
    flat_map (row_of frame refused entries) (range_with_len 0 (length entries))

-- the size of the image, and the colours of its classes
abbrev pub sized_head : Frame → ℕ → List Entry → List ℕ
sized_head frame hands entries =
    head_text (width_of frame.blocks hands (longest frame entries)) (height_of (rows_shown frame))

-- the image of what is shown
unfoldable pub image_text : Frame → ℕ → Option ℕ → List Entry → List ℕ
image_text frame hands refused entries =
    sized_head frame hands entries
    ++ (legend_text ++ (columns_text frame.blocks ++ (lanes_text frame hands
    ++ (bars_text frame entries ++ (rows_text frame refused entries ++ codes "</svg>\n")))))

-- the picture of a trace, of which this is shown
unfoldable pub picture_of : TraceValue → Shown → List ℕ
picture_of trace shown =
    image_text (shown_frame trace shown) trace.opening.hands shown.refused trace.entries
