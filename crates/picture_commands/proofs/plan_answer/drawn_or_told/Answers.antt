use Rattle.std.proofs.Common.{refl}
use Rattle.picture_commands.proofs.Plans.{plan-matches}
use Rattle.picture_commands.proofs.plan_answer.drawn_or_told.Goals as goal

pub drawing_of-requires : goal.drawing_of-requires
drawing_of-requires c =
    plan-matches c.args.bytes.now c.in-Ok.plan ((c.in-Ok.ensures.plan c.in-Ok.plan).0 refl).0

pub returns-in_ok-drawing_of-in-Ok : goal.returns-in_ok-drawing_of-in-Ok
returns-in_ok-drawing_of-in-Ok c = record {
  plan = c.in-Ok.plan;
  is = ((c.in-Ok.ensures.plan c.in-Ok.plan).0 refl).0;
  shows = c.in_ok-drawing_of-in-Ok.ensures;
}
