use Rattle.std.proofs.Common.{◌+◌, ℤ, List, get_or, pos, ap, subst, sym, ◌∙◌, rules, arith, w64, FitsSigned}
use Rattle.std.proofs.lemmas.Int.{to_z-of_z}
use Rattle.exec_value.specs.declared.outcome.Completion.TheVariants.{Error}
use Rattle.plan_rules.specs.Bulks.{row_ending}
use Rattle.node_images.proofs.Elements.{IsDoneTo, done-more, done-fault}
use Rattle.node_images.proofs.bulk.each.Goals as goal

pub returns-in-Err : goal.returns-in-Err
returns-in-Err c =
    let number = get_or c.args.numbers.now c.loop-index.index (pos 0) in
    let fits : FitsSigned w64 number = search rules in
    let applied = simp to_z-of_z at (sym c.apply_at.ensures ∙ c.in-Err.is) in
    let name = c.in_ok-error_at-in-Err.ensures.exact in
    let fails = done-fault c.args.job.now c.args.numbers.now c.loop-index.made.items c.loop-index.index
    (pos 0) c.loop-index.invariant.done c.loop-index-test.true c.in-Err.fault applied in
    c.error.ensures ∙ ap (λ (e : List _). Error e) name ∙ sym (ap row_ending fails)

pub loop-index-preserved : goal.loop-index-preserved
loop-index-preserved c =
    let job = c.args.job.now in
    let numbers = c.args.numbers.now in
    let index = c.loop-index.index in
    let made = c.loop-index.made.items in
    let fits : FitsSigned w64 (get_or numbers index (pos 0)) = search rules in
    let made_fits : FitsSigned w64 c.in-Ok.number = search rules in
    let applied = simp to_z-of_z at (sym c.apply_at.ensures ∙ c.in-Ok.is) in
    let pushed = simp to_z-of_z at c.push_reserved.ensures.items in
    let more = done-more job numbers made index (pos 0) c.loop-index.invariant.done
    c.loop-index-test.true c.in-Ok.number applied in
    record {
      done = subst (λ (l : List ℤ). IsDoneTo job numbers (index + 1) l) (sym pushed) more;
      count = omega (arith, c.loop-index.invariant.count, c.push_reserved.ensures.len);
      room = omega (arith, c.loop-index.invariant.room, c.push_reserved.ensures.capacity);
    }
