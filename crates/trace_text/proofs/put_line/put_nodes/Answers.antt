use Rattle.trace_text.proofs.Added.{adds_more, adds_each}
use Rattle.std.proofs.Common.{[], ◌∷◌, ◌++◌, sym, arith}
use Rattle.std.proofs.lemmas.Option.{get_or_from_slice_get}
use Rattle.trace_text.specs.Texts.{line_feed, node_text}
use Rattle.trace_text.proofs.put_line.put_nodes.Goals as goal

pub loop-number-preserved : goal.loop-number-preserved
loop-number-preserved c =
    adds_more (λ n. node_text n ++ line_feed ∷ []) c.args.tree.now c.loop-number.number c.node.result.now c.node.result.now
    c.loop-number.invariant c.in_ok-put_node.ensures (omega (arith, c.size-number-end.ensures.size))
    (sym (get_or_from_slice_get c.args.tree.now c.loop-number.number c.node.result.now c.node.result.now c.node.ensures))

pub returns : goal.returns
returns c =
    adds_each (λ n. node_text n ++ line_feed ∷ []) c.args.tree.now c.loop-number.number c.loop-number.invariant (omega (arith, c.size-number-end.ensures.size))
