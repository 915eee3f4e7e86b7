-- In which order a hand's scan passes the places of a source: rising block, then rising node.
use Rattle.std.specs.Prelude.{ℕ, zero, suc, ◌+◌, ◌-◌, ◌*◌, ◌/◌, ◌%◌, Bool, true, false, not, ◌&&◌, ◌==◌, nat_le, List, length}
use Rattle.node_tree.specs.declared.node.TreeNode.{TreeNode}
use Rattle.life_rules.specs.declared.event.SourceRef.{SourceRef}
use Rattle.life_rules.specs.declared.event.SourceRef.TheVariants.{Scope, Node}
use Rattle.node_tree.specs.Tree.{Nearest, TheScope, TheNode, Nowhere, nearest}

abbrev pub is_the_scope : Nearest → Bool
is_the_scope TheScope = true
is_the_scope (TheNode p) = false
is_the_scope Nowhere = false

abbrev pub is_the_node : ℕ → Nearest → Bool
is_the_node q TheScope = false
is_the_node q (TheNode p) = p == q
is_the_node q Nowhere = false

-- a callback of the place is registered on this source
abbrev pub hears : List TreeNode → SourceRef → ℕ → ℕ → Bool
hears tree Scope block node = is_the_scope (nearest tree node)
hears tree (Node y) block node = block == y.block && is_the_node y.node (nearest tree node)

-- none of the `count` places from number i on hears the source
abbrev pub none_hears : List TreeNode → SourceRef → ℕ → ℕ → Bool
none_hears tree source i zero = true
none_hears tree source i (suc count) =
    not (hears tree source (i / length tree) (i % length tree))
    && none_hears tree source (suc i) count

-- the place is the first from number i on that hears the source
abbrev pub is_next_place : List TreeNode → SourceRef → ℕ → ℕ → ℕ → Bool
is_next_place tree source i block node =
    let place = block * length tree + node in
    hears tree source block node && (nat_le i place && none_hears tree source i (place - i))
