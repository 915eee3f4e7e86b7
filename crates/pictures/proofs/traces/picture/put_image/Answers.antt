use Rattle.std.proofs.Common.{ap, ◌∙◌}
use Rattle.pictures.proofs.Joining.{Adds-same, Adds-then}
use Rattle.pictures.specs.Traces.Headings.{head_text}
use Rattle.pictures.specs.Traces.Layout.{height_of, width_of}
use Rattle.pictures.specs.Traces.Picture.{image_text, longest}
use Rattle.pictures.proofs.TraceLaws.Rows.{on_ok}
use Rattle.pictures.proofs.traces.picture.put_image.Goals as goal

pub returns : goal.returns
unfolding image_text
returns c =
    let frame = c.args.frame in
    let width = c.width_of-width.ensures ∙ ap (width_of frame.blocks c.args.hands) c.in_ok-longest.ensures in
    let height = c.height_of.ensures ∙ ap height_of c.rows_shown.ensures in
    let head = ap (λ w. head_text w c.height_of.result) width ∙ ap (head_text (width_of frame.blocks c.args.hands (longest frame c.args.entries.now))) height in
    on_ok c.put_all.result
    (λ end. Adds-then (Adds-same head c.in_ok-put_head.ensures) (Adds-then c.in_ok-put_legend.ensures (Adds-then c.in_ok-put_columns.ensures
    (Adds-then c.in_ok-put_lanes.ensures (Adds-then c.in_ok-put_bars.ensures (Adds-then c.in_ok-put_rows.ensures end))))))
    c.put_all.ensures
