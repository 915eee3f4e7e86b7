use Rattle.std.proofs.Common.{◌-◌, suc, ◌≡◌, [], Option, inl, inr, ap, ◌∙◌, arith}
use Rattle.std.specs.Option.{option_map_or}
use Rattle.pictures.proofs.Joining.{Adds-nil, Adds-same, Adds-then}
use Rattle.plan_rules.specs.declared.node.Node.{Node}
use Rattle.pictures.specs.Plans.Ends.{end_of}
use Rattle.pictures.specs.Plans.Drawing.{box_text}
use Rattle.pictures.proofs.PlanLaws.Contexts.{on_ok}
use Rattle.pictures.proofs.PlanLaws.Drawn.{drawn_from-here, drawn_from-node, drawn-parts}
use Rattle.pictures.proofs.plans.drawing.+drawing.Goals as goal
use Rattle.pictures.proofs.plans.drawing.+drawing.Goals.{draw_from-then-steps-eq0-via-then-steps-eq0, draw_from-then-steps-eq0-via-else-steps-eq0+then-spot-size}

pub draw_from-returns-then-steps-eq0 : goal.draw_from-returns-then-steps-eq0
draw_from-returns-then-steps-eq0 t c =
    let spot = c.args.spot in
    let here = drawn_from-here c.args.plan.now.nodes c.args.sigs.now c.args.steps spot.number spot.count spot.start (elim c.then-steps-eq0.branch [
      | draw_from-then-steps-eq0-via-then-steps-eq0 w ↦ inl w.if-steps-eq0.true
      | draw_from-then-steps-eq0-via-else-steps-eq0+then-spot-size w ↦ inr (omega (arith, w.size.ensures.size, w.if-spot-size.true))
    ]) in
    Adds-same here (Adds-nil _)

pub draw_from-returns : goal.draw_from-returns
draw_from-returns t c =
    let nodes = c.args.plan.now.nodes in
    let sigs = c.args.sigs.now in
    let spot = c.args.spot in
    let steps = c.args.steps in
    let below = steps - 1 in
    let node = c.node-node.result.now in
    let one : steps ≡ suc below = omega (arith, c.if-steps-eq0.false) in
    let box = ap (λ (o : Option Node). option_map_or (λ node. box_text nodes sigs spot.number node spot.count spot.start c.in_ok-end.end) o []) c.node-node.ensures in
    let parts = drawn-parts nodes sigs below spot.number spot.count spot.start node
    c.as_slice-children.result.now c.bodies_of-bodies.result.now c.as_slice-child_folds.result.now c.as_slice-body_folds.result.now
    c.home_below-start.result c.in_ok-later.later c.in_ok-end.end
    (c.as_slice-children.ensures.value ∙ c.in_ok-run.ensures) c.bodies_of-bodies.ensures
    (c.as_slice-child_folds.ensures.value ∙ c.in_ok-folded.ensures) (c.as_slice-body_folds.ensures.value ∙ c.in_ok-folded_bodies.ensures)
    c.home_below-start.ensures c.in_ok-later.ensures (c.in_ok-end.ensures ∙ ap (λ s. end_of nodes s spot.number spot.start) one) in
    on_ok c.draw_each-2.result
    (λ last. Adds-same (parts ∙ drawn_from-node nodes sigs steps below spot.number spot.count spot.start node one c.node-node.ensures)
    (Adds-then (Adds-same box c.in_ok-put_box.ensures) (Adds-then (Adds-then c.in_ok-put_arrows.ensures c.in_ok-put_body_arrows.ensures) (Adds-then c.in_ok-draw_each.ensures last))))
    c.draw_each-2.ensures
