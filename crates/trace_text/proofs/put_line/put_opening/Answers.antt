use Rattle.std.proofs.Common.{◌≡◌, ap, ◌∙◌, length, List}
use Rattle.node_tree.specs.declared.node.TreeNode.{TreeNode}
use Rattle.trace_text.specs.Texts.{numbers_text, lines, node_text}
use Rattle.trace_text.proofs.Added.{adds_same, adds_join}
use Rattle.trace_text.proofs.put_line.put_opening.Goals as goal

pub returns : goal.returns
returns c =
    let o = c.args.opening.now in
    let tree = c.tree-tree.ensures.tree in
    let nodes : c.size.result ≡ length o.nodes = c.size.ensures.size ∙ ap length tree in
    let numbers : numbers_text c.size.result c.blocks-blocks.result c.hands-hands.result c.kind-kind.result c.most-most.result
    ≡ numbers_text (length o.nodes) o.blocks o.hands o.kind o.most = cc in
    adds_join (adds_same numbers c.in_ok-put_numbers.ensures)
    (adds_join c.in_ok-put.ensures (adds_same (ap (λ (l : List TreeNode). lines node_text l) tree) c.in_ok-put_nodes.ensures))
