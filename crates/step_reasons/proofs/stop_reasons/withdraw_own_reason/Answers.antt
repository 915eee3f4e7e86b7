use Rattle.std.proofs.Common.{sym, ◌∙◌}
use Rattle.step_reasons.proofs.Passing.{three-some}
use Rattle.step_reasons.proofs.stop_reasons.withdraw_own_reason.Goals as goal

pub returns-in-Some : goal.returns-in-Some
returns-in-Some c = sym (three-some _ _ _ _ _ _ _ c.in-Some.fact (sym c.end_run_reason.ensures ∙ c.in-Some.is))
