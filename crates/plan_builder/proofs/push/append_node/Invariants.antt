use Rattle.std.proofs.Common.{◌≡◌, ◌+◌, ◌≤◌, ◌++◌, vec_len}
use Rattle.std.specs.Prelude.{vec_capacity}
use Rattle.plan_shape.specs.Added.{parts_of}
use Rattle.plan_builder.proofs.push.append_node.Given as goal

abbrev pub invariant-loop-part : goal.invariant-loop-part
invariant-loop-part l = record {
  nodes : l.nodes.items ≡ l.fn.nodes.items ++ parts_of l.number l.part;
  length : vec_len l.nodes ≡ vec_len l.fn.nodes + l.part;
  room : vec_capacity l.fn.nodes ≤ vec_capacity l.nodes;
}
