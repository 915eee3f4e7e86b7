-- What a reader makes of a node's object.
use Rattle.std.specs.Prelude.{◌≡◌, ◌≤◌, ◌+◌, ◌*◌, ◌==◌, ℕ, true, false, take}
use Rattle.std.specs.List.{range_with_len}
use Rattle.serde_json.specs.Data.{depth}
use Rattle.serde_json.specs.Written.{has_float}
use Rattle.plan_shape.specs.Blueprint.{Blueprint}
use Rattle.plan_shape.specs.Depths.{depth_of}
use Rattle.plan_parts.specs.declared.reading.TheConstants.{NO_FAULT}
use Rattle.plan_reader.specs.Walked.{Walked, walk}
use Rattle.plan_writer.specs.Nodes.{node_data}
use Rattle.plan_writer.specs.Order.{file_order}

-- where a walk stands that made so many nodes of a plan, and found nothing wrong
abbrev pub walked_to : Blueprint → ℕ → Walked
walked_to plan count = record {
  nodes = take count plan.nodes;
  elements = true;
  faults = NO_FAULT;
  is_first = plan.settings.version == 1;
}

-- a node's object has no fractions and isn't too deep, and a walk over it makes the nodes that
-- stand below the node and then the node, behind those that stand before them
pub record IsReadBack (plan : Blueprint) (n : ℕ) : Type 0 where
  pub whole_numbers : has_float (node_data plan.nodes n) ≡ false
  pub shallow : depth (node_data plan.nodes n) ≤ 2 * depth_of plan.nodes n + 2
  pub walked : (first size levels : ℕ) → file_order plan.nodes n ≡ range_with_len first size →
      depth_of plan.nodes n ≤ levels →
      walk levels (node_data plan.nodes n) (walked_to plan first) ≡ walked_to plan (n + 1)
