use Rattle.std.proofs.Common.{ℕ, ◌-◌, sym, subst}
use Rattle.plan_writer.specs.Order.{IsWritten}
use Rattle.plan_writer.proofs.Shapes.{root-written}
use Rattle.plan_writer.proofs.order.is_in_file_order.Goals as goal

pub push_order-requires-clause-written : goal.push_order-requires-clause-written
push_order-requires-clause-written c =
    let P : ℕ → Type 0 = λ k. IsWritten c.args.plan.now.nodes (k - 1) in
    subst P (sym c.size-size.ensures.size) (root-written c.args.plan.now c.size-size.ensures.plan)
