use Rattle.std.proofs.Common.{sym, ◌∙◌}
use Rattle.step_reasons.proofs.Passing.{passed, two-some}
use Rattle.step_reasons.proofs.life_reasons.finish_reason.Goals as goal

pub returns-in-Some : goal.returns-in-Some
returns-in-Some c =
    sym
    (passed _ _ _ (sym c.has_place.ensures ∙ c.if-not-has_place.false)
    ∙ two-some _ _ _ _ _ c.in-Some.fact (sym c.leave_reason.ensures ∙ c.in-Some.is))
