use Rattle.std.proofs.Common.{rules}
use Rattle.run_loop.proofs.loop_mail.LoopMail.take.Goals as goal

pub returns-in-Some-clause-none : goal.returns-in-Some-clause-none
returns-in-Some-clause-none g c = search rules

pub returns-in-Some-clause-deck : goal.returns-in-Some-clause-deck
returns-in-Some-clause-deck g c = search rules
