-- What the tree of a plan has at each place.
use Rattle.std.proofs.Common.{◌≡◌, ℕ, ◌+◌, ◌<◌, List, [], ◌∷◌, ◌++◌, length, map, Some, ap, ◌∙◌, arith, length-append}
use Rattle.std.specs.Prelude.{slice_get}
use Rattle.std.specs.List.{range_with_len}
use Rattle.std.proofs.lemmas.Option.{slice_get-get_or}
use Rattle.std.proofs.lemmas.List.FromFn.{length-map-range_with_len, get_or-map-range_with_len}
use Rattle.node_tree.specs.declared.node.TreeNode.{TreeNode}
use Rattle.common_lemmas.proofs.Lists.{slice_get-append_left, slice_get-append_right}
use Rattle.plan_rules.specs.declared.node.Node.{Node}
use Rattle.plan_shape.specs.PlanTree.{tree_node, receiver_node, tree_of}

pub length-tree_of : (nodes : List Node) → length (tree_of nodes) ≡ length nodes + 1
length-tree_of nodes =
    length-append (map (tree_node nodes) (range_with_len 0 (length nodes))) (receiver_node ∷ [])
    ∙ ap (λ n. n + 1) (length-map-range_with_len (tree_node nodes) 0 (length nodes))

pub tree_of-node : (nodes : List Node) (n : ℕ) → n < length nodes → slice_get (tree_of nodes) n ≡ Some (tree_node nodes n)
tree_of-node nodes n l =
    let front : List TreeNode = map (tree_node nodes) (range_with_len 0 (length nodes)) in
    let within : n < length front = omega (arith, l, length-map-range_with_len (tree_node nodes) 0 (length nodes)) in
    slice_get-append_left front (receiver_node ∷ []) n within
    ∙ slice_get-get_or front n receiver_node within
    ∙ ap Some (get_or-map-range_with_len (tree_node nodes) 0 (length nodes) n n receiver_node l (omega arith))

pub tree_of-receiver : (nodes : List Node) → slice_get (tree_of nodes) (length nodes) ≡ Some receiver_node
tree_of-receiver nodes =
    let front : List TreeNode = map (tree_node nodes) (range_with_len 0 (length nodes)) in
    let at : length nodes ≡ length front + 0 = omega (arith, length-map-range_with_len (tree_node nodes) 0 (length nodes)) in
    ap (slice_get (front ++ receiver_node ∷ [])) at
    ∙ slice_get-append_right front (receiver_node ∷ []) 0
