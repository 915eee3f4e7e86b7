use Rattle.pictures.proofs.plans.picture.put_sample.Goals as goal

pub returns : goal.returns
returns c = simp (c.fill_of.ensures, c.border_of.ensures) at c.put_all.ensures
