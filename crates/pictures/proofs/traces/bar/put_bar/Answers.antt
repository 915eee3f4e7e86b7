use Rattle.pictures.proofs.Joining.{Adds-then}
use Rattle.pictures.specs.Traces.Bars.{bar_text}
use Rattle.pictures.proofs.TraceLaws.Rows.{on_ok}
use Rattle.pictures.proofs.traces.bar.put_bar.Goals as goal

pub returns : goal.returns
unfolding bar_text
returns c =
    let start = simp (c.class_of_bar.ensures, c.x_of.ensures, c.row_top.ensures, c.format.ensures.text, c.format-2.ensures.text, c.format-3.ensures.text) at c.in_ok-put_all.ensures in
    on_ok c.put_all-2.result (λ end. Adds-then start (Adds-then c.in_ok-put_title.ensures end)) c.put_all-2.ensures
