use Rattle.std.proofs.Common.{◌+◌, sym, ◌∙◌}
use Rattle.plan_shape.specs.Finish.{is_ahead}
use Rattle.line_rules.proofs.AnyNode.{one-more, among-all}
use Rattle.line_rules.proofs.window.has_ahead.Goals as goal

pub returns-then-spawns : goal.returns-then-spawns
returns-then-spawns c =
    among-all is_ahead c.args.plan.now.nodes (c.loop-number.number + 1)
    (one-more is_ahead c.args.plan.now.nodes c.loop-number.number _ c.node.ensures c.loop-number.invariant ∙ sym c.spawns.ensures
    ∙ c.if-spawns.true)

pub loop-number-preserved : goal.loop-number-preserved
loop-number-preserved c =
    one-more is_ahead c.args.plan.now.nodes c.loop-number.number _ c.node.ensures c.loop-number.invariant ∙ sym c.spawns.ensures
    ∙ c.if-spawns.false
