use Rattle.step_reasons.proofs.Complete.{refused-steps}
use Rattle.step_reasons.proofs.law.refused_steps_have_reasons.Goals as goal

pub returns : goal.returns
returns c = refused-steps
