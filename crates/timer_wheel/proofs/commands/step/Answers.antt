use Rattle.std.proofs.Common.{rules}
use Rattle.timer_wheel.proofs.commands.step.Goals as goal

pub returns-in-Due : goal.returns-in-Due
returns-in-Due c = search rules
