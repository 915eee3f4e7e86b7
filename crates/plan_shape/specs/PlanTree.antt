-- The tree of a plan, whose root is the receiver node.
use Rattle.std.specs.Prelude.{◌≡◌, ℕ, Bool, true, false, ◌==◌, if◌then◌else◌, List, [], ◌∷◌, ◌++◌, length, map, Some, None}
use Rattle.std.specs.Option.{option_map_or}
use Rattle.std.specs.List.{range_with_len}
use Rattle.node_tree.specs.declared.node.TreeNode.{TreeNode}
use Rattle.plan_rules.specs.declared.node.Node.{Node}
use Rattle.plan_rules.specs.declared.node.Node.TheVariants.{WhenAll, Unstoppable, Ahead}
use Rattle.plan_shape.specs.Parents.{parent_of}
use Rattle.plan_shape.specs.Finish.{passes}
use Rattle.plan_shape.specs.Blueprint.{Blueprint, IsPlan}

abbrev pub is_when_all : Node → Bool
is_when_all (WhenAll children) = true
is_when_all node = false

abbrev pub is_unstoppable : Node → Bool
is_unstoppable (Unstoppable child) = true
is_unstoppable node = false

-- the node is an `ahead` whose first child is n
abbrev pub spawns : ℕ → Node → Bool
spawns n (Ahead first second) = first == n
spawns n node = false

-- the root stands under the receiver node, and so does the first child of an `ahead`
abbrev pub parent_in_tree : List Node → ℕ → ℕ
parent_in_tree nodes n =
    option_map_or (λ m. if passes (spawns n) nodes m then length nodes else m)
    (parent_of nodes n) (length nodes)

-- node n in the tree
abbrev pub tree_node : List Node → ℕ → TreeNode
tree_node nodes n = record {
  parent = Some (parent_in_tree nodes n);
  source = passes is_when_all nodes n;
  unstoppable = passes is_unstoppable nodes n;
}

abbrev pub receiver_node : TreeNode
receiver_node = record { parent = None; source = false; unstoppable = false }

-- the tree: the nodes and then the receiver node
abbrev pub tree_of : List Node → List TreeNode
tree_of nodes = map (tree_node nodes) (range_with_len 0 (length nodes)) ++ receiver_node ∷ []

-- the plan is one, and this is its tree
pub record IsPlanWith (plan : Blueprint) (tree : List TreeNode) : Type 0 where
  pub plan_is : IsPlan plan
  pub tree_is : tree ≡ tree_of plan.nodes
