use Rattle.std.proofs.Common.{sym, ◌∙◌}
use Rattle.step_reasons.proofs.Passing.{passed, stopped, middle-fails}
use Rattle.step_reasons.proofs.stop_reasons.look_after_reason.Goals as goal

pub returns-then-not-allows : goal.returns-then-not-allows
returns-then-not-allows c =
    let there = sym c.has_place.ensures ∙ c.if-not-has_place.false in
    let near = sym c.is_nearest.ensures ∙ c.if-not-is_nearest.false in
    sym
    (passed _ _ _ there ∙ passed _ _ _ near
    ∙ stopped _ _ _ (middle-fails _ _ _ (sym c.allows.ensures ∙ c.if-not-allows.true) there near))
