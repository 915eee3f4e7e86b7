use Rattle.std.proofs.Common.{refl}
use Rattle.picture_commands.proofs.why_answer.trace_explained.Goals as goal

pub returns-in-Ok-explained-clause-answer : goal.returns-in-Ok-explained-clause-answer
returns-in-Ok-explained-clause-answer c = record {
  short = c.in-Ok.ensures.short;
  trace = c.in-Ok.trace;
  read = c.in-Ok.ensures.ok;
  taken = c.in-Ok-explained.answer.drawn;
  explains = c.in-Ok-explained.ensures;
  status_is = refl;
}
