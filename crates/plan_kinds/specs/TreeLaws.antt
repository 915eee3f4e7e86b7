-- What the tree of a plan shows of its nodes.
use Rattle.std.specs.Prelude.{◌≡◌, ◌↔◌, ◌⊎◌, ℕ, ◌+◌, true, false, List, length, slice_get, Contains, Some}
use Rattle.node_tree.specs.declared.node.TreeNode.{TreeNode}
use Rattle.node_tree.specs.Tree.{has_source, is_unstoppable, is_child}
use Rattle.plan_rules.specs.declared.node.Node.{Node}
use Rattle.plan_rules.specs.declared.node.Node.TheVariants.{Ahead}
use Rattle.plan_shape.specs.Blueprint.{Blueprint, IsPlan}
use Rattle.plan_shape.specs.Children.{children_of}
use Rattle.plan_shape.specs.PlanTree.{is_when_all, spawns, tree_of}
use Rattle.plan_shape.specs.PlanTree as plan_tree

-- the tree shows this node: only a `when_all` has a source, only an `unstoppable` is one, and its
-- children are the plan's, but for the first of an `ahead`, which stands aside
pub record ShowsNode (tree : List TreeNode) (n : ℕ) (node : Node) : Type 0 where
  pub source : has_source tree n ≡ is_when_all node
  pub unstoppable : is_unstoppable tree n ≡ plan_tree.is_unstoppable node
  pub children : (k : ℕ) →
      (is_child tree n k ≡ true) ↔ (Contains (children_of n node) k × (spawns k node ≡ false))

-- the node is the first child of an `ahead`, which is spawned
pub record IsSpawned (nodes : List Node) (child : ℕ) : Type 0 where
  pub ahead : ℕ
  pub second : ℕ
  pub node : slice_get nodes ahead ≡ Some (Ahead child second)

-- an operation runs the plan's root, or a node that is spawned: the children of the receiver node
abbrev pub IsTop : List Node → ℕ → Type 0
IsTop nodes child = (child + 1 ≡ length nodes) ⊎ IsSpawned nodes child

-- the tree of a plan shows each of its nodes; it has one node more, the receiver node, below which
-- stand the plan's root and the first children of each `ahead`
pub record ShowsPlan (nodes : List Node) (tree : List TreeNode) : Type 0 where
  pub size : length tree ≡ length nodes + 1
  pub each : (n : ℕ) (node : Node) → slice_get nodes n ≡ Some node → ShowsNode tree n node
  pub below : (k : ℕ) → (is_child tree (length nodes) k ≡ true) ↔ IsTop nodes k

abbrev pub TreesShowPlans : Type 0
TreesShowPlans = (plan : Blueprint) → IsPlan plan → ShowsPlan plan.nodes (tree_of plan.nodes)
