use Rattle.std.proofs.Common.{List, [], Option, length, sym, ap, ◌∙◌, arith}
use Rattle.std.specs.Option.{option_map_or}
use Rattle.node_tree.specs.declared.node.TreeNode.{TreeNode}
use Rattle.node_tree.specs.Tree.{nearest}
use Rattle.plan_rules.specs.declared.node.Node.{Node}
use Rattle.plan_shape.proofs.TreeLemmas.{length-tree_of}
use Rattle.plan_kinds.specs.declared.sig.Sig.{Sig}
use Rattle.pictures.proofs.Joining.{Adds-same, Adds-then}
use Rattle.pictures.specs.Plans.Lines.{source_line}
use Rattle.pictures.specs.Plans.Drawing.{box_text, sig_text}
use Rattle.pictures.proofs.PlanLaws.Contexts.{on_ok}
use Rattle.pictures.proofs.plans.drawing.put_box.Goals as goal

pub nearest-requires : goal.nearest-requires
nearest-requires c = omega (arith, ap length c.tree.ensures, length-tree_of c.args.plan.now.nodes, c.requires.within)

pub returns : goal.returns
unfolding box_text
returns c =
    let nodes = c.args.plan.now.nodes in
    let sigs = c.args.sigs.now in
    let spot = c.args.spot in
    let end = c.args.end in
    let source = ap source_line (c.nearest.ensures.nearest ∙ ap (λ (t : List TreeNode). nearest t spot.number) c.tree.ensures) in
    let sig = sym (ap (λ (o : Option Sig). option_map_or (sig_text spot.start end) o []) c.of-sig.ensures) in
    let at = sym (ap (λ (o : Option Node). option_map_or (λ node. box_text nodes sigs spot.number node spot.count spot.start end) o []) c.node.ensures) in
    on_ok c.put_box_end.result
    (λ last. Adds-same at (Adds-then c.in_ok-put_box_node.ensures
    (Adds-then (Adds-same source c.in_ok-put_source_line.ensures) (Adds-same sig (Adds-then c.in_ok-put_value_line.ensures last)))))
    c.put_box_end.ensures
