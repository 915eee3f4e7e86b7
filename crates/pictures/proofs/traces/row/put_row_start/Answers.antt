use Rattle.pictures.specs.Traces.Rows.{row_start}
use Rattle.pictures.proofs.traces.row.put_row_start.Goals as goal

pub returns : goal.returns
unfolding row_start
returns c = simp (c.class_of.ensures, c.lane_x.ensures, c.row_top.ensures, c.format.ensures.text, c.format-2.ensures.text, c.format-3.ensures.text) at c.put_all.ensures
