use Rattle.std.proofs.Common.{refl}
use Rattle.picture_commands.proofs.text_answer.noted_or_told.Goals as goal

pub returns-in_ok-text_of-in-Ok : goal.returns-in_ok-text_of-in-Ok
returns-in_ok-text_of-in-Ok c = record {
  plan = c.in-Ok.plan;
  is = ((c.in-Ok.ensures.plan c.in-Ok.plan).0 refl).0;
  shows = c.in_ok-text_of-in-Ok.ensures;
}
