use Rattle.std.specs.List.{flat_map}
use Rattle.std.proofs.Common.{◌≡◌, ◌+◌, ◌*◌, ◌++◌, take}
use Rattle.plan_writer.specs.Nodes.{listed}
use Rattle.plan_writer.specs.Order.{file_order}
use Rattle.plan_writer.proofs.order.+order.Given as goal

abbrev pub decreases-push_order : goal.decreases-push_order
decreases-push_order l = 3 * l.at + 2

abbrev pub decreases-push_children : goal.decreases-push_children
decreases-push_children l = 3 * l.at + 1

abbrev pub decreases-push_listed : goal.decreases-push_listed
decreases-push_listed l = 3 * l.at

abbrev pub invariant-push_listed-loop-child : goal.invariant-push_listed-loop-child
invariant-push_listed-loop-child l = record {
  same : l.child-items ≡ listed l.node;
  so_far : l.order.items
      ≡ l.initial.order.items ++ flat_map (file_order l.plan.nodes) (take l.child-index l.child-items);
}
