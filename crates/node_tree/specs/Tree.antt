-- A tree of operations: a list of nodes in which every node but the last, the root, has a parent of
-- greater number. Some nodes have a stop source, some are unstoppable, none is both.
use Rattle.std.specs.Prelude.{◌≡◌, ℕ, zero, suc, ◌+◌, ◌-◌, ◌<◌, ◌≤◌, Bool, false, not, ◌&&◌, ◌==◌, nat_lt, if◌then◌else◌, List, length, Option, IsTrue, slice_get, is_none}
use Rattle.std.specs.Option.{option_map_or, option_and_then}
use Rattle.node_tree.specs.declared.node.TreeNode.{TreeNode}
use Rattle.node_tree.specs.declared.node.TheConstants.{MOST_NODES}

-- the node's parent: none for the root
abbrev pub parent_of : List TreeNode → ℕ → Option ℕ
parent_of tree n = option_and_then (λ node. node.parent) (slice_get tree n)

abbrev pub has_source : List TreeNode → ℕ → Bool
has_source tree n = option_map_or (λ node. node.source) (slice_get tree n) false

abbrev pub is_unstoppable : List TreeNode → ℕ → Bool
is_unstoppable tree n = option_map_or (λ node. node.unstoppable) (slice_get tree n) false

-- n is a child of p
abbrev pub is_child : List TreeNode → ℕ → ℕ → Bool
is_child tree p n = option_map_or (λ q. q == p) (parent_of tree n) false

abbrev pub is_root : List TreeNode → ℕ → Bool
is_root tree n = n + 1 == length tree

-- what a stop callback of a node is registered on: the scope's source, that of a node, or none
pub data Nearest : Type 0 where
  TheScope : Nearest
  TheNode : ℕ → Nearest
  Nowhere : Nearest

-- what a parent gives its children, where `above` is what it has itself
abbrev pub given_by : List TreeNode → ℕ → Nearest → Nearest
given_by tree p above =
    if has_source tree p then TheNode p else (if is_unstoppable tree p then Nowhere else above)

-- the walk up from a node to its nearest proper ancestor that has a source or is unstoppable, of at
-- most so many steps
unfoldable pub source_above : List TreeNode → ℕ → ℕ → Nearest
source_above tree zero n = TheScope
source_above tree (suc steps) n =
    option_map_or (λ p. given_by tree p (source_above tree steps p)) (parent_of tree n) TheScope

-- that source, none where the ancestor is unstoppable, and the scope's where there is no such
-- ancestor
abbrev pub nearest : List TreeNode → ℕ → Nearest
nearest tree n = source_above tree (length tree) n

-- a parent has a greater number than its child; the root has none
abbrev pub has_place : List TreeNode → ℕ → Bool
has_place tree n =
    if is_root tree n
    then is_none (parent_of tree n)
    else option_map_or (λ p. nat_lt n p && nat_lt p (length tree)) (parent_of tree n) false

-- the node keeps the rules of a tree
abbrev pub is_node : List TreeNode → ℕ → Bool
is_node tree n =
    has_place tree n && nat_lt n MOST_NODES && not (has_source tree n && is_unstoppable tree n)

-- a tree: a list that isn't empty, of nodes that keep its rules
pub record IsTree (tree : List TreeNode) : Type 0 where
  pub some : 0 < length tree
  pub each : (n : ℕ) → n < length tree → IsTrue (is_node tree n)

-- n is the first node that breaks a rule; in an empty list that is 0
pub record IsFirstFault (tree : List TreeNode) (n : ℕ) : Type 0 where
  pub below : (m : ℕ) → m < n → IsTrue (is_node tree m)
  pub fault : is_node tree n ≡ false
  pub within : n ≤ length tree - 1
