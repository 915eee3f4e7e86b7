use Rattle.pictures.specs.Traces.Headings.{lane_text}
use Rattle.pictures.proofs.traces.heading.put_lane.Goals as goal

pub returns : goal.returns
unfolding lane_text
returns c = simp (c.lane_x-x.ensures, c.rows_shown.ensures, c.format.ensures.text, c.format-2.ensures.text, c.format-3.ensures.text, c.format-4.ensures.text) at c.put_all.ensures
