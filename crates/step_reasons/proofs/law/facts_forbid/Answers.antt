use Rattle.step_reasons.proofs.Forbidding.{facts-forbid}
use Rattle.step_reasons.proofs.law.facts_forbid.Goals as goal

pub returns : goal.returns
returns c = facts-forbid
