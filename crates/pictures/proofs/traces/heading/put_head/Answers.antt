use Rattle.pictures.specs.Traces.Headings.{head_text}
use Rattle.pictures.proofs.traces.heading.put_head.Goals as goal

pub returns : goal.returns
unfolding head_text
returns c = simp (c.format.ensures.text, c.format-2.ensures.text) at c.put_all.ensures
