use Rattle.std.proofs.Common.{rules}
use Rattle.timer_wheel.proofs.law.limits_of_wheels.Goals as goal

pub returns-clause-last : goal.returns-clause-last
returns-clause-last c = search rules
