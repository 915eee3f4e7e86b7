use Rattle.std.proofs.Common.{◌∙◌}
use Rattle.replay_core.proofs.grounds.control_of.Goals as goal

pub returns : goal.returns
returns c = c.control.ensures ∙ c.words.ensures.tells.control c.args.place c.requires
