use Rattle.step_parts.proofs.Ended.{keeps-same}
use Rattle.serve_ahead.proofs.joining.may_join.Goals as goal

pub returns-then-not-heard-clause-keeps : goal.returns-then-not-heard-clause-keeps
returns-then-not-heard-clause-keeps g c = keeps-same c.args.site.now c.args.taken.now c.args.hand.now c.requires.taken.stays.hand
