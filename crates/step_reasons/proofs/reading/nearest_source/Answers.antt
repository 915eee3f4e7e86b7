use Rattle.std.proofs.Common.{ap, ◌∙◌, List}
use Rattle.node_tree.specs.declared.node.TreeNode.{TreeNode}
use Rattle.node_tree.specs.Tree.{nearest}
use Rattle.step_reasons.specs.Scanning.{source_named}
use Rattle.step_reasons.proofs.reading.nearest_source.Goals as goal

pub returns-in-Scope : goal.returns-in-Scope
returns-in-Scope c =
    let p = c.args.place in
    ap (source_named p.block) (c.in-Scope.ensures.nearest ∙ ap (λ (tree : List TreeNode). nearest tree p.node) c.tree.ensures)

pub returns-in-Node : goal.returns-in-Node
returns-in-Node c =
    let p = c.args.place in
    ap (source_named p.block) (c.in-Node.ensures.nearest ∙ ap (λ (tree : List TreeNode). nearest tree p.node) c.tree.ensures)

pub returns-in-Nowhere : goal.returns-in-Nowhere
returns-in-Nowhere c =
    let p = c.args.place in
    ap (source_named p.block) (c.in-Nowhere.ensures.nearest ∙ ap (λ (tree : List TreeNode). nearest tree p.node) c.tree.ensures)
