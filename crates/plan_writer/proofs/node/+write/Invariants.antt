use Rattle.std.proofs.Common.{◌≡◌, ◌+◌, ◌*◌, All, map, take}
use Rattle.serde_json.specs.View.{view}
use Rattle.plan_writer.specs.Nodes.{listed, node_data}
use Rattle.plan_writer.specs.ReadBack.{IsReadBack}
use Rattle.plan_writer.proofs.node.+write.Given as goal

abbrev pub decreases-node_value : goal.decreases-node_value
decreases-node_value l = 3 * l.at + 2

abbrev pub decreases-with_children : goal.decreases-with_children
decreases-with_children l = 3 * l.at + 1

abbrev pub decreases-list_value : goal.decreases-list_value
decreases-list_value l = 3 * l.at

abbrev pub invariant-list_value-loop-child : goal.invariant-list_value-loop-child
invariant-list_value-loop-child l = record {
  same : l.child-items ≡ listed l.node;
  back : All (IsReadBack l.plan) (take l.child-index l.child-items);
  so_far : map view l.values.items ≡ map (node_data l.plan.nodes) (take l.child-index l.child-items);
}
