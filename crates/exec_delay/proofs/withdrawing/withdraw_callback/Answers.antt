use Rattle.step_parts.proofs.Ended.{keeps-same}
use Rattle.exec_delay.proofs.withdrawing.withdraw_callback.Goals as goal

pub returns-in-None-clause-keeps : goal.returns-in-None-clause-keeps
returns-in-None-clause-keeps g c = keeps-same c.args.site.now c.args.taken.now c.args.hand.now c.requires.taken.stays.hand
