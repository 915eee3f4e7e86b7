use Rattle.std.proofs.Common.{◌+◌, ◌++◌, drop, sym, ap, ◌∙◌, arith}
use Rattle.std.specs.Prelude.{bytes_eq}
use Rattle.pictures.specs.Plans.Folds.{texts_of}
use Rattle.pictures.proofs.PlanLaws.Folding.{texts-next, folds-same, folds-pushed}
use Rattle.pictures.proofs.plans.folds.folds_from.Goals as goal

pub loop-next-preserved-then-is_same : goal.loop-next-preserved-then-is_same
loop-next-preserved-then-is_same c =
    let later = c.args.later.now in
    let i = c.loop-next.next-index in
    let next = c.next-item.result in
    let there = texts-next later i next (omega (arith, c.loop-next-test.true)) c.next-item.is in
    let same = ap (λ t. bytes_eq t c.loop-next.text.now) (sym c.as_slice.ensures.value) ∙ sym c.is_same.ensures in
    record {
      passed = omega (arith, c.loop-next.invariant.passed);
      rest = ap (λ fs. c.loop-next.folds.items ++ fs) (sym (folds-same c.loop-next.at c.loop-next.count c.loop-next.text.now next.items (drop (i + 1) (texts_of later)) (drop i (texts_of later)) there (same ∙ c.if-is_same.true)))
          ∙ c.loop-next.invariant.rest;
    }

pub loop-next-preserved : goal.loop-next-preserved
loop-next-preserved c =
    let later = c.args.later.now in
    let i = c.loop-next.next-index in
    let next = c.next-item.result in
    let there = texts-next later i next (omega (arith, c.loop-next-test.true)) c.next-item.is in
    let same = ap (λ t. bytes_eq t c.loop-next.text.now) (sym c.as_slice.ensures.value) ∙ sym c.is_same.ensures in
    record {
      passed = omega (arith, c.loop-next.invariant.passed);
      rest = folds-pushed c.loop-next.folds.items c.push.new.self.items c.loop-next.at c.loop-next.count c.loop-next.text.now c.as_slice-text.result.now next.items c.args.first.now
          (drop (i + 1) (texts_of later)) (drop i (texts_of later)) (texts_of later)
          c.in_ok-push.ensures.items c.as_slice-text.ensures.value there (same ∙ c.if-is_same.false) c.loop-next.invariant.rest;
    }
