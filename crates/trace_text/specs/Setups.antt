-- What a trace or a schedule opens with.
use Rattle.std.specs.Prelude.{ℕ, ◌≤◌, List, length}
use Rattle.node_tree.specs.declared.scope_kind.ScopeKind.{ScopeKind}
use Rattle.node_tree.specs.declared.node.TreeNode.{TreeNode}
use Rattle.node_tree.specs.Tree.{IsTree}
use Rattle.trace_text.specs.declared.limits.TheConstants.{NODES, BLOCKS, HANDS, ASSOCIATIONS}

pub record Setup : Type 0 where
  pub nodes : List TreeNode
  pub blocks : ℕ
  pub hands : ℕ
  pub kind : ScopeKind
  -- the most associations that the scope takes
  pub most : ℕ

-- its numbers are within the limits: at least 1, and no more than the most
pub record IsWithin (nodes blocks hands most : ℕ) : Type 0 where
  pub some_node : 1 ≤ nodes
  pub few_nodes : nodes ≤ NODES
  pub some_block : 1 ≤ blocks
  pub few_blocks : blocks ≤ BLOCKS
  pub some_hand : 1 ≤ hands
  pub few_hands : hands ≤ HANDS
  pub some_association : 1 ≤ most
  pub few_associations : most ≤ ASSOCIATIONS

-- its nodes are a tree, and its numbers within the limits
pub record IsSetup (o : Setup) : Type 0 where
  pub tree : IsTree o.nodes
  pub within : IsWithin (length o.nodes) o.blocks o.hands o.most
