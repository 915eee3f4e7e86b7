use Rattle.step_reasons.proofs.Told.{reasons-so}
use Rattle.step_reasons.proofs.law.reasons_are_so.Goals as goal

pub returns : goal.returns
returns c = reasons-so
