use Rattle.std.specs.Option.{option_or}
use Rattle.std.proofs.Common.{◌≡◌, None, sym, ap, ◌∙◌, rules}
use Rattle.plan_kinds.specs.Shapes.{common}
use Rattle.plan_kinds.specs.Values.{shapes_of}
use Rattle.sig_check.proofs.ShapeLemmas.{common-first, common-more}
use Rattle.sig_check.proofs.shapes.common.Goals as goal

pub returns-then-is_some-2 : goal.returns-then-is_some-2
returns-then-is_some-2 c =
    let sigs = c.args.behind.now in
    sym (ap (λ s. option_or s (common (shapes_of sigs))) c.loop-sig.invariant.0
    ∙ common-first sigs c.loop-sig.sig-index c.sig-item.result c.loop-sig-test.true c.sig-item.is
    c.loop-sig.invariant.1 (search rules))

pub loop-sig-preserved : goal.loop-sig-preserved
loop-sig-preserved c =
    let never : c.sig-item.result.value ≡ None = search rules in (
      c.loop-sig.invariant.0,
      common-more c.args.behind.now c.loop-sig.sig-index c.sig-item.result c.loop-sig-test.true c.sig-item.is
          c.loop-sig.invariant.1 never,
    )
