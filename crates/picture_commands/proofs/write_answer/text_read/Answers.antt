use Rattle.std.proofs.Common.{ap}
use Rattle.picture_commands.specs.Answers.{status_of}
use Rattle.picture_commands.proofs.write_answer.text_read.Goals as goal

pub returns-in-Ok-clause-answer : goal.returns-in-Ok-clause-answer
returns-in-Ok-clause-answer c = record {
  written = c.in-Ok.written;
  is = c.in-Ok.ensures;
  status_is = ap status_of c.answer_of.ensures.drawn;
  text_is = c.answer_of.ensures.text;
}
