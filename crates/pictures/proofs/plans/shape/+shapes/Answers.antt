use Rattle.std.proofs.Common.{◌-◌, inl, inr, ap, ◌∙◌, arith}
use Rattle.std.specs.List.{flat_map}
use Rattle.pictures.proofs.Joining.{Adds-nil, Adds-same, Adds-then}
use Rattle.pictures.specs.Plans.Shapes.{shape_of}
use Rattle.pictures.proofs.PlanLaws.Contexts.{on_ok}
use Rattle.pictures.proofs.PlanLaws.Drawn.{shape_of-here, shape_of-node}
use Rattle.pictures.proofs.plans.shape.+shapes.Goals as goal
use Rattle.pictures.proofs.plans.shape.+shapes.Goals.{put_shape-then-steps-eq0-via-then-steps-eq0, put_shape-then-steps-eq0-via-else-steps-eq0+then-number-size}

pub put_shape-returns-then-steps-eq0 : goal.put_shape-returns-then-steps-eq0
put_shape-returns-then-steps-eq0 t c =
    let here = shape_of-here c.args.plan.now.nodes c.args.steps c.args.number (elim c.then-steps-eq0.branch [
      | put_shape-then-steps-eq0-via-then-steps-eq0 w ↦ inl w.if-steps-eq0.true
      | put_shape-then-steps-eq0-via-else-steps-eq0+then-number-size w ↦ inr (omega (arith, w.size.ensures.size, w.if-number-size.true))
    ]) in
    Adds-same here (Adds-nil _)

pub put_shape-returns : goal.put_shape-returns
put_shape-returns t c =
    let nodes = c.args.plan.now.nodes in
    let below = c.args.steps - 1 in
    let node = c.node-node.result.now in
    let children = ap (flat_map (shape_of nodes below)) (c.deref.ensures.value ∙ c.in_ok-children.ensures) in
    let bodies = ap (flat_map (shape_of nodes below)) c.bodies_of.ensures in
    let whole = shape_of-node nodes c.args.steps below c.args.number node (omega (arith, c.if-steps-eq0.false)) c.node-node.ensures in
    on_ok c.put_all-3.result
    (λ end. Adds-same whole (Adds-then c.in_ok-put_name.ensures (Adds-then c.in_ok-put_own.ensures (Adds-then c.in_ok-put_all.ensures
    (Adds-then (Adds-same children c.in_ok-put_shapes.ensures) (Adds-then c.in_ok-put_all-2.ensures (Adds-then (Adds-same bodies c.in_ok-put_shapes-2.ensures) end)))))))
    c.put_all-3.ensures
