use Rattle.pictures.proofs.Joining.{Adds-then}
use Rattle.pictures.proofs.PlanLaws.Contexts.{on_ok}
use Rattle.pictures.proofs.plans.lines.put_body_arrow.Goals as goal

pub returns : goal.returns
returns c =
    let start = simp (c.format.ensures.text, c.format-2.ensures.text, c.format-3.ensures.text) at c.in_ok-put_all.ensures in
    on_ok c.put_all-2.result (λ end. Adds-then start (Adds-then c.in_ok-put_times.ensures end)) c.put_all-2.ensures
