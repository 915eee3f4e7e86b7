-- Numbers of a sound state that fit their types.
use Rattle.std.proofs.Common.{◌-◌, ◌*◌, ◌<◌, ◌≤◌, ◌&&◌, List, length, arith}
use Rattle.std.specs.Prelude.{nat_lt}
use Rattle.std.proofs.lemmas.Bool.{and_parts, ltb-true}
use Rattle.std.proofs.Math.Nat.{mul-le-mul_left}
use Rattle.node_tree.specs.declared.node.TreeNode.{TreeNode}
use Rattle.node_tree.specs.declared.node.TheConstants.{MOST_NODES}
use Rattle.node_tree.specs.Tree.{IsTree, has_place}
use Rattle.life_rules.specs.Scans.{end}
use Rattle.exec_life.specs.StateLists.{StateLists, machine, IsState}

-- a tree has so many nodes at most
pub tree-most : (tree : List TreeNode) → IsTree tree → length tree ≤ MOST_NODES
tree-most tree is =
    let last = length tree - 1 in
    let within : last < length tree = omega (arith, is.some) in
    let parts = and_parts (has_place tree last && nat_lt last MOST_NODES) _ (is.each last within) in
    let below = ltb-true last MOST_NODES (and_parts (has_place tree last) (nat_lt last MOST_NODES) parts.0).1 in
    omega (arith, below)

-- the numbers of a scan's order are so few
pub end-most : (d : StateLists) → IsState d → end (machine d) ≤ 1025 * 256
end-most d state =
    let nodes = tree-most d.tree state.sound.tree in
    let blocks = state.fitted.most_blocks in
    let wide : length d.tree * length d.words.blocks ≤ length d.tree * 256 = mul-le-mul_left (length d.tree) blocks in
    omega (arith, nodes, wide)
