use Rattle.std.specs.List.{range_with_len}
use Rattle.std.proofs.Common.{◌≡◌, ◌-◌, [], ◌∷◌, ◌++◌, sym, ap, ◌∙◌, arith}
use Rattle.plan_shape.specs.declared.limits.TheConstants.{BULK_PARTS}
use Rattle.plan_shape.specs.Children.{part_count}
use Rattle.plan_writer.proofs.CountLemmas.{part-more}
use Rattle.plan_writer.proofs.order.push_parts.Goals as goal

pub loop-part-preserved : goal.loop-part-preserved
loop-part-preserved c =
    c.in_ok-push.ensures.items
    ∙ ap (λ ks. ks ++ c.loop-part.part ∷ []) c.loop-part.invariant
    ∙ part-more c.args.order.now.items (c.args.at - BULK_PARTS) c.loop-part.part (omega arith)

pub returns-after-loop-part : goal.returns-after-loop-part
returns-after-loop-part c =
    let old = c.args.order.now.items in
    let count : part_count c.args.node.now ≡ 8 = ap part_count c.in-Bulk.is in
    let size : c.loop-part.part - (c.args.at - 8) ≡ 8 = omega (arith, count) in
    c.loop-part.invariant
    ∙ ap (λ k. old ++ range_with_len (c.args.at - 8) k) size
    ∙ ap (λ k. old ++ range_with_len (c.args.at - k) k) (sym count)
