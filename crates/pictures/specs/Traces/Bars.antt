-- Bars: the lives of blocks, each from claim to release, and the runs of callbacks, each from the
-- run of an armed one to its end. One that doesn't end goes to the last row.
use Rattle.std.specs.Prelude.{ℕ, ◌+◌, ◌-◌, ◌*◌, ◌==◌, Bool, false, List, [], ◌∷◌, ◌++◌, length, drop, take, max, min, nat_lt, position, slice_get, codes, decimal, Option, Some, None, if◌then◌else◌}
use Rattle.std.specs.List.{concat}
use Rattle.std.specs.Option.{option_map_or}
use Rattle.life_rules.specs.declared.event.Event.{Event}
use Rattle.life_rules.specs.declared.event.Event.TheVariants as event
use Rattle.life_rules.specs.declared.event.Place.{Place}
use Rattle.trace_text.specs.declared.entry.Entry.{Entry}
use Rattle.pictures.specs.declared.traces.bar.Bar.{Bar}
use Rattle.pictures.specs.declared.traces.bar.Bar.TheVariants.{Life, Run}
use Rattle.pictures.specs.declared.traces.frame.Frame.{Frame}
use Rattle.pictures.specs.declared.traces.layout.TheConstants.{ROW}
use Rattle.pictures.specs.Traces.Armed.{is_still_armed, same_place}
use Rattle.pictures.specs.Traces.Frames.{row_top}
use Rattle.pictures.specs.Traces.Layout.{column_x, lane_x}

-- the bar of a callback that a hand runs, behind these earlier entries: where it is armed
abbrev pub run_begun : Place → ℕ → List Entry → Option Bar
run_begun place hand earlier = if is_still_armed place earlier then Some (Run place hand) else None

-- the bar that begins with an event of a hand, behind these earlier entries
abbrev pub bar_begun : ℕ → List Entry → Event → Option Bar
bar_begun hand earlier (event.Claim block) = Some (Life block)
bar_begun hand earlier (event.Run source place) = run_begun place hand earlier
bar_begun hand earlier other = None

abbrev pub begun : Entry → List Entry → Option Bar
begun entry earlier = bar_begun entry.hand earlier entry.event

-- the bar ends with the event
abbrev pub ended_by : Bar → Event → Bool
ended_by (Life block) (event.Release given) = given == block
ended_by (Run place hand) (event.EndRun given) = same_place given place
ended_by bar other = false

abbrev pub ends : Bar → Entry → Bool
ends bar entry = ended_by bar entry.event

-- how many rows a bar has, with these entries behind its first
abbrev pub rows_of_bar : Bar → List Entry → ℕ
rows_of_bar bar later =
    option_map_or (λ before. before + 2) (position (ends bar) later) (length later + 1)

-- where a bar stands: in the column of its block, or at the edge of the lane of its hand
abbrev pub x_of : Frame → Bar → ℕ
x_of frame (Life block) = column_x block
x_of frame (Run place hand) = 3 + lane_x frame.blocks hand

-- the class of a bar, which gives its colour
abbrev pub class_of_bar : Bar → List ℕ
class_of_bar (Life block) = codes "block"
class_of_bar (Run place hand) = codes "run"

-- what a viewer says of a bar
unfoldable pub title_of : Bar → List ℕ
title_of (Life block) = concat (codes "<title>block " ∷ decimal block ∷ codes "</title>" ∷ [])
title_of (Run place hand) = concat (
    codes "<title>callback of " ∷ decimal place.block ∷ codes "." ∷ decimal place.node
    ∷ codes "</title>" ∷ [])

-- where a bar stands, and how high it is
abbrev pub bar_start : Frame → Bar → ℕ → ℕ → List ℕ
bar_start frame bar top bottom = concat (
    codes "<rect class=\"" ∷ class_of_bar bar ∷ codes "\" x=\"" ∷ decimal (x_of frame bar)
    ∷ codes "\" y=\"" ∷ decimal (row_top frame top) ∷ codes "\" width=\"12\" height=\""
    ∷ decimal (ROW * (bottom - top)) ∷ codes "\">" ∷ [])

-- a bar from its top row to the row behind its last
unfoldable pub bar_text : Frame → Bar → ℕ → ℕ → List ℕ
bar_text frame bar top bottom = bar_start frame bar top bottom
    ++ (title_of bar ++ codes "</rect>\n")

-- what is shown between these rows: nothing where the bar ends before the first or begins behind
-- the last
abbrev pub bar_between : Frame → Bar → ℕ → ℕ → List ℕ
bar_between frame bar top bottom =
    if nat_lt top bottom then bar_text frame bar top bottom else []

-- what is shown of a bar that begins in row n and has so many
unfoldable pub shown_bar : Frame → Bar → ℕ → ℕ → List ℕ
shown_bar frame bar n rows = bar_between frame bar (max n frame.from) (min (n + rows) frame.to)

-- the same by the entries
abbrev pub bar_in : Frame → List Entry → ℕ → Bar → List ℕ
bar_in frame entries n bar = shown_bar frame bar n (rows_of_bar bar (drop (n + 1) entries))

-- what is shown of the bar that begins at the entry of this number, where one does
unfoldable pub bar_at : Frame → List Entry → ℕ → List ℕ
bar_at frame entries n =
    option_map_or
    (λ entry. option_map_or (bar_in frame entries n) (begun entry (take n entries)) [])
    (slice_get entries n) []
