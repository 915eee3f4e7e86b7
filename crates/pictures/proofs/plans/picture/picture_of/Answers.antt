use Rattle.std.proofs.Common.{◌-◌, ◌≡◌, ℕ, length, ap, arith}
use Rattle.pictures.proofs.Joining.{Adds-same, Adds-then}
use Rattle.plan_shape.specs.declared.limits.TheConstants.{MOST_DEPTH}
use Rattle.pictures.specs.declared.plans.home.Home.TheVariants.{Loop}
use Rattle.pictures.specs.Plans.Drawing.{drawn_from}
use Rattle.pictures.specs.Plans.Picture.{picture_of}
use Rattle.pictures.proofs.plans.picture.picture_of.Goals as goal

pub returns : goal.returns
unfolding picture_of
returns c =
    let nodes = c.args.plan.now.nodes in
    let root : c.saturating_sub.result ≡ length nodes - 1 = omega (arith, c.saturating_sub.ensures, c.size.ensures.size) in
    let drawn = Adds-same (ap (λ (n : ℕ). drawn_from nodes c.args.sigs.now MOST_DEPTH n 1 Loop) root) c.in_ok-draw_from.ensures in
    let whole = Adds-then c.in_ok-put_all.ensures (Adds-then c.in_ok-put_legend.ensures (Adds-then drawn c.in_ok-put_all-2.ensures)) in
    rw c.new-text.ensures.items at whole.added
