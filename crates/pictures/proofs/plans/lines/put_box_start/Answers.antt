use Rattle.pictures.proofs.plans.lines.put_box_start.Goals as goal

pub returns : goal.returns
returns c = simp (c.format-digits.ensures.text, c.name_of.ensures) at c.put_all.ensures
