use Rattle.std.proofs.Common.{◌+◌, List, length, ap, sym, subst, ◌∙◌}
use Rattle.std.specs.Prelude.{All}
use Rattle.std.proofs.lemmas.List.{length_push}
use Rattle.std.proofs.lemmas.List.Elements.{All-push}
use Rattle.exec_life.specs.ViewLists.{ViewLists, IsBlankView}
use Rattle.exec_life.proofs.view.blank_views.Goals as goal

pub loop-hand-preserved : goal.loop-hand-preserved
loop-hand-preserved c =
    let kept = c.loop-hand.invariant in
    let old = c.loop-hand.views.items in
    let new = c.in_ok-new.field-0 in
    let items = c.in_ok-push.ensures.items in
    let blank = IsBlankView c.args.blocks c.args.nodes in
    record {
      count = ap length items ∙ length_push old new ∙ ap (λ k. k + 1) kept.count;
      each = subst (λ (xs : List ViewLists). All blank xs) (sym items) (All-push blank old new kept.each c.in_ok-new.ensures);
    }
