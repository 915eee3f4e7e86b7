use Rattle.std.proofs.Common.{rules}
use Rattle.run_loop.proofs.loop_mail.LoopMail.hear.Goals as goal

pub returns-in-Loop-clause-hears : goal.returns-in-Loop-clause-hears
returns-in-Loop-clause-hears g c = search rules
