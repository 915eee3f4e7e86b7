use Rattle.std.proofs.Common.{◌∙◌}
use Rattle.step_reasons.proofs.reading.control_at.Goals as goal

pub returns : goal.returns
returns c = c.control.ensures ∙ c.words.ensures.tells.control c.args.place c.requires
