use Rattle.std.proofs.Common.{◌∙◌, sym}
use Rattle.exec_life.specs.StateLists.{machine}
use Rattle.replay_core.proofs.Kept.{keeps_step, keeps_no_step}
use Rattle.replay_core.proofs.candidates.Listing.keep.Goals as goal

pub returns-then-not-allows : goal.returns-then-not-allows
returns-then-not-allows c =
    keeps_no_step (machine c.args.self.now.state.now) c.args.self.now.hand c.args.found.now.items c.args.event
    (sym c.allows.ensures ∙ c.if-not-allows.true)

pub returns : goal.returns
returns c =
    keeps_step (machine c.args.self.now.state.now) c.args.self.now.hand c.args.found.now.items _ c.args.event
    (sym c.allows.ensures ∙ c.if-not-allows.false) c.in_ok-push.ensures.items
