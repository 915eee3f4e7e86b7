use Rattle.std.proofs.Common.{◌∙◌, ap, arith, length, ◌<◌, subst, List}
use Rattle.std.proofs.lemmas.List.{get_or_read}
use Rattle.node_tree.specs.declared.node.TreeNode.{TreeNode}
use Rattle.node_tree.specs.declared.nearest.NearestSource.TheVariants.{Scope}
use Rattle.node_tree.specs.Nearest.{read, IsSourceOf}
use Rattle.node_tree.proofs.Walk.{source-read}
use Rattle.node_tree.proofs.tree.Tree.nearest.Goals as goal

pub returns-clause-source : goal.returns-clause-source
returns-clause-source c =
    let table = c.self.invariant.table_is in
    let nodes = c.self.inside.nodes.items in
    let within : c.args.node < length nodes = omega (arith, ap length c.self.view_is) in
    let reads = get_or_read c.self.inside.nearest.items c.args.node c.index.result.now
    (omega (arith, table.as_long)) c.index.ensures Scope in
    let P : List TreeNode → Type 0 = λ tree. IsSourceOf tree c.index.result.now in
    subst P c.self.view_is
    (source-read nodes c.args.node c.index.result.now (ap read reads ∙ table.each c.args.node within))
