use Rattle.pictures.proofs.plans.shape.one_shape.Goals as goal

pub returns : goal.returns
returns c = rw c.new-shape.ensures.items at c.in_ok-put_shape.ensures.added
