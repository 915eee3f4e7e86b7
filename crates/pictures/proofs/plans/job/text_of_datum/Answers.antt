use Rattle.pictures.proofs.plans.job.text_of_datum.Goals as goal

pub returns : goal.returns
returns c = rw c.new-text.ensures.items at c.in_ok-put_datum.ensures.added
