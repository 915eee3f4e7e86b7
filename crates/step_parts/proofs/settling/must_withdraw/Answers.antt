use Rattle.std.proofs.Common.{rules}
use Rattle.step_parts.proofs.settling.must_withdraw.Goals as goal

pub returns-in_default : goal.returns-in_default
returns-in_default c = search rules
