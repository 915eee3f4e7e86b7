use Rattle.pictures.specs.Traces.Headings.{column_text}
use Rattle.pictures.proofs.traces.heading.put_column.Goals as goal

pub returns : goal.returns
unfolding column_text
returns c = simp (c.column_x.ensures, c.format.ensures.text, c.format-2.ensures.text) at c.put_all.ensures
