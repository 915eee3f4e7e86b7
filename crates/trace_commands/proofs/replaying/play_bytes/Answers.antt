use Rattle.std.proofs.Common.{refl}
use Rattle.trace_commands.proofs.replaying.play_bytes.Goals as goal

pub returns-in-Ok-text_of-clause-answer : goal.returns-in-Ok-text_of-clause-answer
returns-in-Ok-text_of-clause-answer c = record {
  short = c.in-Ok.ensures.short;
  schedule = c.in-Ok.schedule;
  read = c.in-Ok.ensures.ok;
  status_is = refl;
  text_is = c.in-Ok-text_of.ensures;
}
