-- Where things stand in the image, in pixels.
use Rattle.std.specs.Prelude.{ℕ, ◌+◌, ◌-◌, ◌*◌, max, min}
use Rattle.pictures.specs.declared.traces.layout.TheConstants.{CHARACTERS, COLUMN, LANE, LEGEND, ROW, TOP}

-- where the column of a block begins
abbrev pub column_x : ℕ → ℕ
column_x block = 8 + COLUMN * block

-- where the lane of a hand begins, right of the columns of blocks
abbrev pub lane_x : ℕ → ℕ → ℕ
lane_x blocks hand = 24 + COLUMN * blocks + LANE * hand

-- where a row begins, which comes behind `before` rows
abbrev pub row_y : ℕ → ℕ
row_y before = TOP + ROW * before

-- the height of an image of rows
abbrev pub height_of : ℕ → ℕ
height_of rows = row_y rows + 8

-- what the longest text of an entry needs, with its number and a mark
abbrev pub needed : ℕ → ℕ
needed longest = 144 + 8 * min longest CHARACTERS

-- the width of an image: beside the lanes there is room for what doesn't fit into the last
abbrev pub width_of : ℕ → ℕ → ℕ → ℕ
width_of blocks hands longest = max LEGEND (lane_x blocks hands + (needed longest - LANE))
