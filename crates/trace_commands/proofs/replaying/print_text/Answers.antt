use Rattle.trace_commands.specs.Answers.Prints.{whole, front}
use Rattle.trace_commands.proofs.replaying.print_text.Goals as goal

pub returns-in-Ok-clause-prints : goal.returns-in-Ok-clause-prints
returns-in-Ok-clause-prints g c = whole c.in-Ok.ensures.ok

pub returns-in-Err-clause-prints : goal.returns-in-Err-clause-prints
returns-in-Err-clause-prints g c = front c.in-Err.ensures.err
