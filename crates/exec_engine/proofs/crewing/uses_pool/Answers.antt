use Rattle.std.proofs.Common.{◌+◌, sym, ◌∙◌}
use Rattle.line_rules.proofs.AnyNode.{one-more, among-all}
use Rattle.exec_engine.specs.Crewing.{goes_to_pool}
use Rattle.exec_engine.proofs.crewing.uses_pool.Goals as goal

pub returns-then-goes_to_pool : goal.returns-then-goes_to_pool
returns-then-goes_to_pool c =
    among-all goes_to_pool c.args.plan.now.nodes (c.loop-number.number + 1)
    (one-more goes_to_pool c.args.plan.now.nodes c.loop-number.number _ c.node.ensures c.loop-number.invariant ∙ sym c.goes_to_pool.ensures
    ∙ c.if-goes_to_pool.true)

pub loop-number-preserved : goal.loop-number-preserved
loop-number-preserved c =
    one-more goes_to_pool c.args.plan.now.nodes c.loop-number.number _ c.node.ensures c.loop-number.invariant ∙ sym c.goes_to_pool.ensures
    ∙ c.if-goes_to_pool.false
