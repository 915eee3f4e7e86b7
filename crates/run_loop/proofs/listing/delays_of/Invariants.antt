use Rattle.run_loop.specs.DelayNodes.{AreDelaysBelow}
use Rattle.run_loop.proofs.listing.delays_of.Given as goal

abbrev pub invariant-loop-node : goal.invariant-loop-node
invariant-loop-node l = AreDelaysBelow l.plan.nodes l.node l.list.items
