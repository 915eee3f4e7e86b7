use Rattle.std.proofs.Common.{ap}
use Rattle.picture_commands.specs.Answers.{status_of}
use Rattle.picture_commands.proofs.trace_answer.trace_drawn.Goals as goal

pub returns-in-Ok-drawing_of-clause-answer : goal.returns-in-Ok-drawing_of-clause-answer
returns-in-Ok-drawing_of-clause-answer c = record {
  short = c.in-Ok.ensures.short;
  trace = c.in-Ok.trace;
  read = c.in-Ok.ensures.ok;
  status_is = ap status_of c.in-Ok-drawing_of.ensures.drawn;
  picture = c.in-Ok-drawing_of.ensures.text;
}
