use Rattle.std.proofs.Common.{◌∙◌}
use Rattle.step_reasons.proofs.reading.phase_at.Goals as goal

pub returns : goal.returns
returns c = c.callback.ensures ∙ c.words.ensures.tells.callback c.args.place c.requires
