-- A table that was opened over a plan.
use Rattle.std.specs.Prelude.{◌≡◌, length}
use Rattle.node_tree.specs.Tree.{IsTree}
use Rattle.plan_shape.specs.Blueprint.{Blueprint, IsPlan}
use Rattle.plan_shape.specs.PlanTree.{tree_of}
use Rattle.table_steps.specs.Views.{Board}

-- The table was opened with the plan's tree, over the plan, and each block has a place for each
-- node.
pub record IsOver (board : Board Blueprint) (plan : Blueprint) : Type 0 where
  pub over : board.frame.over.value ≡ plan
  pub tree : board.frame.tree ≡ tree_of plan.nodes
  pub nodes : board.frame.layout.nodes ≡ length board.frame.tree
  pub is_tree : IsTree board.frame.tree
  pub is_plan : IsPlan plan
