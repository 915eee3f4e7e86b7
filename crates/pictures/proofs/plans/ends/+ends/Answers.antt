use Rattle.std.proofs.Common.{◌-◌, inl, inr, sym, ◌∙◌, arith}
use Rattle.pictures.specs.Plans.Ends.{end_of}
use Rattle.pictures.proofs.PlanLaws.Contexts.{end_of-here, end_of-node, end_of-parts}
use Rattle.pictures.proofs.plans.ends.+ends.Goals as goal
use Rattle.pictures.proofs.plans.ends.+ends.Goals.{end_of-then-steps-eq0-via-then-steps-eq0, end_of-then-steps-eq0-via-else-steps-eq0+then-number-size}

pub end_of-returns-then-steps-eq0 : goal.end_of-returns-then-steps-eq0
end_of-returns-then-steps-eq0 t c =
    sym (end_of-here c.args.plan.now.nodes c.args.steps c.args.number c.args.start (elim c.then-steps-eq0.branch [
      | end_of-then-steps-eq0-via-then-steps-eq0 w ↦ inl w.if-steps-eq0.true
      | end_of-then-steps-eq0-via-else-steps-eq0+then-number-size w ↦ inr (omega (arith, w.size.ensures.size, w.if-number-size.true))
    ]))

pub end_of-returns : goal.end_of-returns
end_of-returns t c =
    let nodes = c.args.plan.now.nodes in
    let below = c.args.steps - 1 in
    let node = c.node-node.result.now in
    end_of-parts (end_of nodes below) c.args.start c.home_below.result c.in_ok-own.own c.in_ok-all.all c.home_behind.result node
    c.deref.result.now c.bodies_of.result.now c.home_below.ensures (c.deref.ensures.value ∙ c.in_ok-children.ensures)
    c.bodies_of.ensures c.in_ok-own.ensures c.in_ok-all.ensures c.home_behind.ensures
    ∙ sym (end_of-node nodes c.args.steps below c.args.number c.args.start node (omega (arith, c.if-steps-eq0.false)) c.node-node.ensures)
