use Rattle.std.proofs.Common.{◌≡◌, map}
use Rattle.std.specs.List.{range_with_len}
use Rattle.plan_shape.specs.PlanTree.{tree_node}
use Rattle.plan_builder.proofs.builder.PlanBuilder.tree_nodes.Given as goal

abbrev pub invariant-loop-node : goal.invariant-loop-node
invariant-loop-node l = l.tree.items ≡ map (tree_node l.fn.self) (range_with_len 0 l.node)
