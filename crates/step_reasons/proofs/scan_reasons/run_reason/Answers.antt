use Rattle.std.proofs.Common.{Some, sym, ap, ◌∙◌}
use Rattle.step_reasons.specs.declared.fact.Fact.{Fact}
use Rattle.step_reasons.proofs.Passing.{passed, stopped}
use Rattle.step_reasons.proofs.Zeros.{none-zero}
use Rattle.step_reasons.proofs.scan_reasons.run_reason.Goals as goal

pub returns-then-not-allows : goal.returns-then-not-allows
returns-then-not-allows c =
    ap (λ (fact : Fact). Some fact) c.scan_reason.ensures
    ∙ sym
    (passed _ _ _ (sym c.has_place.ensures ∙ c.if-not-has_place.false)
    ∙ passed _ _ _ (none-zero _ (sym c.has_part.ensures ∙ c.if-has_part.false))
    ∙ stopped _ _ _ (sym c.allows.ensures ∙ c.if-not-allows.true))
