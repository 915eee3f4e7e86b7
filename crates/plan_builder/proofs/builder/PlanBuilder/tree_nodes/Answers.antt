use Rattle.std.proofs.Common.{◌≡◌, ◌+◌, ◌++◌, ◌∷◌, [], map, sym, ap, ◌∙◌, arith}
use Rattle.std.specs.List.{range_with_len}
use Rattle.std.proofs.lemmas.List.FromFn.{map-range_with_len_more}
use Rattle.plan_shape.specs.PlanTree.{tree_node}
use Rattle.plan_builder.proofs.builder.PlanBuilder.tree_nodes.Goals as goal

pub loop-node-preserved : goal.loop-node-preserved
loop-node-preserved c =
    let n = c.loop-node.node in
    let f = tree_node c.args.self.now in
    let more : map f (range_with_len 0 (n + 1)) ≡ map f (range_with_len 0 n) ++ f n ∷ [] =
    map-range_with_len_more f 0 n n (omega arith) in
    c.in_ok-push.ensures.items
    ∙ ap (λ ns. ns ++ c.tree_node.result ∷ []) c.loop-node.invariant
    ∙ ap (λ node. map f (range_with_len 0 n) ++ node ∷ []) c.tree_node.ensures
    ∙ sym more
