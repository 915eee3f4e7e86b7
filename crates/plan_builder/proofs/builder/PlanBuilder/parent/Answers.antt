use Rattle.std.proofs.Common.{◌≤◌, length, sym, ap, ◌∙◌, arith}
use Rattle.plan_shape.specs.Parents.{parent_of}
use Rattle.plan_shape.proofs.ForestLaws.{no_parent}
use Rattle.plan_builder.proofs.builder.PlanBuilder.parent.Goals as goal

pub returns-in-None : goal.returns-in-None
returns-in-None c =
    let nodes = c.self.inside.nodes.items in
    let past : length nodes ≤ c.args.node =
    omega (arith, c.in-None.ensures.lookup, c.deref.ensures.len, ap length c.deref.ensures.value, c.self.invariant.as_long) in
    sym (ap (λ ns. parent_of ns c.args.node) (sym c.self.view_is)
    ∙ no_parent nodes c.args.node c.self.invariant.forest past)
