use Rattle.pictures.proofs.Joining.{Adds-then}
use Rattle.pictures.specs.Plans.Picture.{legend_text}
use Rattle.pictures.proofs.PlanLaws.Contexts.{on_ok}
use Rattle.pictures.proofs.plans.picture.put_legend.Goals as goal

pub returns : goal.returns
unfolding legend_text
returns c =
    on_ok c.put_all-2.result
    (λ end. Adds-then c.in_ok-put_all.ensures (Adds-then c.in_ok-put_sample.ensures (Adds-then c.in_ok-put_sample-2.ensures (Adds-then c.in_ok-put_sample-3.ensures end))))
    c.put_all-2.ensures
