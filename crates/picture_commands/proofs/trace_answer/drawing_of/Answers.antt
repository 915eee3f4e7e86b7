use Rattle.std.proofs.Common.{ap, ◌∙◌}
use Rattle.pictures.specs.Traces.Picture.{picture_of}
use Rattle.picture_commands.proofs.trace_answer.drawing_of.Goals as goal

pub returns-clause-text : goal.returns-clause-text
returns-clause-text c = record {
  verdict = c.in_ok-verdict.verdict;
  is = c.in_ok-verdict.ensures.verdict;
  text_is = c.in_ok-picture_of.ensures ∙ ap (picture_of c.args.trace.now) c.shown_for.ensures;
}
