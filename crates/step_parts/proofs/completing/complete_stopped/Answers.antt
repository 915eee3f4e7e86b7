use Rattle.step_parts.proofs.Stopping.{stop-ends}
use Rattle.step_parts.proofs.completing.complete_stopped.Goals as goal

pub complete-requires : goal.complete-requires
complete-requires g c = record { may = stop-ends c.args.site.now c.args.taken c.args.saw c.args.hand.now c.requires.may }
