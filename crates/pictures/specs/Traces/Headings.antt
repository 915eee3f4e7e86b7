-- The head of an image, its legend, and the headings of columns and lanes.
use Rattle.std.specs.Prelude.{ℕ, ◌+◌, ◌*◌, List, [], ◌∷◌, codes, decimal}
use Rattle.std.specs.List.{concat}
use Rattle.pictures.specs.declared.traces.frame.Frame.{Frame}
use Rattle.pictures.specs.declared.traces.layout.TheConstants.{ROW}
use Rattle.pictures.specs.Traces.Frames.{rows_shown}
use Rattle.pictures.specs.Traces.Layout.{column_x, lane_x}

-- the head of an image: its size, and the colours of its classes
unfoldable pub head_text : ℕ → ℕ → List ℕ
head_text width height = concat (
    codes "<svg xmlns=\"http://www.w3.org/2000/svg\" font-family=\"monospace\" font-size=\"12\" width=\""
    ∷ decimal width ∷ codes "\" height=\"" ∷ decimal height
    ∷ codes "\">\n<style>.life { fill: black } .callback { fill: green } .scan { fill: firebrick } .scope { fill: blue } .lane { fill: silver } .block { fill: orange } .run { fill: green; fill-opacity: 0.4 } .refused { fill: red; fill-opacity: 0.25 }</style>\n<rect width=\"100%\" height=\"100%\" fill=\"white\"/>\n"
    ∷ [])

-- the legend, and the heading of the columns
unfoldable pub legend_text : List ℕ
legend_text = concat (
    codes "<text class=\"life\" x=\"8\" y=\"16\">life of operations</text>\n"
    ∷ codes "<text class=\"callback\" x=\"8\" y=\"34\">stop callbacks</text>\n"
    ∷ codes "<text class=\"scan\" x=\"8\" y=\"52\">stop sources: requests, looks, scans</text>\n"
    ∷ codes "<text class=\"scope\" x=\"8\" y=\"70\">scope</text>\n"
    ∷ codes "<rect class=\"block\" x=\"300\" y=\"6\" width=\"12\" height=\"12\"/>\n"
    ∷ codes "<text x=\"320\" y=\"16\">block, from claim to release</text>\n"
    ∷ codes "<rect class=\"run\" x=\"300\" y=\"24\" width=\"12\" height=\"12\"/>\n"
    ∷ codes "<text x=\"320\" y=\"34\">run of a callback</text>\n"
    ∷ codes "<rect class=\"refused\" x=\"300\" y=\"42\" width=\"12\" height=\"12\"/>\n"
    ∷ codes "<text x=\"320\" y=\"52\">refused by the machine</text>\n"
    ∷ codes "<text x=\"8\" y=\"98\">blocks</text>\n" ∷ [])

-- the heading of a block's column
unfoldable pub column_text : ℕ → List ℕ
column_text block = concat (
    codes "<text x=\"" ∷ decimal (column_x block) ∷ codes "\" y=\"112\">" ∷ decimal block
    ∷ codes "</text>\n" ∷ [])

-- the lane of a hand, and its heading
unfoldable pub lane_text : Frame → ℕ → List ℕ
lane_text frame hand =
    let x = lane_x frame.blocks hand in
    concat (
    codes "<rect class=\"lane\" x=\"" ∷ decimal x ∷ codes "\" y=\"100\" width=\"1\" height=\""
    ∷ decimal (20 + ROW * rows_shown frame) ∷ codes "\"/>\n<text x=\"" ∷ decimal (18 + x)
    ∷ codes "\" y=\"112\">hand " ∷ decimal hand ∷ codes "</text>\n" ∷ [])
