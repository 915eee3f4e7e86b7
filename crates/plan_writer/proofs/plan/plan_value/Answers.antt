use Rattle.std.proofs.Common.{ℕ, ◌-◌, sym, subst}
use Rattle.plan_writer.specs.Order.{IsWritten}
use Rattle.plan_writer.proofs.Shapes.{root-written}
use Rattle.plan_writer.proofs.plan.plan_value.Goals as goal

pub node_value-requires-clause-written : goal.node_value-requires-clause-written
node_value-requires-clause-written c =
    let P : ℕ → Type 0 = λ k. IsWritten c.args.plan.now.nodes (k - 1) in
    subst P (sym c.size-root.ensures.size) (root-written c.args.plan.now c.size-root.ensures.plan)
