-- The nearest source of each node, as a tree keeps it beside its nodes.
use Rattle.std.specs.Prelude.{◌≡◌, ℕ, true, ◌<◌, List, length}
use Rattle.std.proofs.Common.{get_or}
use Rattle.node_tree.specs.declared.node.TreeNode.{TreeNode}
use Rattle.node_tree.specs.Tree.{IsTree, Nearest, TheScope, TheNode, Nowhere as NoSource, nearest, has_source}
use Rattle.node_tree.specs.declared.nearest.NearestSource.{NearestSource}
use Rattle.node_tree.specs.declared.nearest.NearestSource.TheVariants.{Scope, Node, Nowhere}

-- what the rules call it
abbrev pub read : NearestSource → Nearest
read Scope = TheScope
read (Node n) = TheNode n
read Nowhere = NoSource

-- the table tells the nearest source of each node
pub record TellsNearest (tree : List TreeNode) (table : List NearestSource) : Type 0 where
  pub as_long : length table ≡ length tree
  pub each : (n : ℕ) → n < length tree → read (get_or table n Scope) ≡ nearest tree n

-- the nodes are a tree, and the table tells their nearest sources
pub record IsTreeWith (nodes : List TreeNode) (table : List NearestSource) : Type 0 where
  pub tree : IsTree nodes
  pub table_is : TellsNearest nodes table

-- where it is a node's, that node is in the tree and has a source
abbrev pub IsSourceOf : List TreeNode → NearestSource → Type 0
IsSourceOf tree Scope = Unit {0}
IsSourceOf tree (Node n) = (has_source tree n ≡ true) × (n < length tree)
IsSourceOf tree Nowhere = Unit {0}
