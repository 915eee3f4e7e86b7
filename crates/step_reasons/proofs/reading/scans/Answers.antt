use Rattle.std.proofs.Common.{sym, ◌∙◌}
use Rattle.exec_life.specs.StateLists.{machine}
use Rattle.step_reasons.proofs.Views.{source-knows, scans-told}
use Rattle.step_reasons.proofs.reading.scans.Goals as goal

pub scans-requires : goal.scans-requires
scans-requires c = source-knows (machine c.args.state.now) c.args.hand _ c.args.source c.view.ensures.tells (sym c.is_known.ensures ∙ c.if-is_known.true)
