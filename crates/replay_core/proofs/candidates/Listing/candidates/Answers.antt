use Rattle.std.proofs.Common.{◌++◌, List, ◌∙◌, ap}
use Rattle.life_rules.specs.declared.event.Event.{Event}
use Rattle.exec_life.specs.StateLists.{machine}
use Rattle.replay_core.specs.Candidates.{candidates}
use Rattle.replay_core.proofs.Kept.{keeps_join}
use Rattle.replay_core.proofs.candidates.Listing.candidates.Goals as goal

pub returns : goal.returns
returns c =
    let s = machine c.args.self.now.state.now in
    (keeps_join c.in_ok-keep_life.ensures (keeps_join c.in_ok-keep_stop.ensures c.in_ok-keep_scope.ensures)).added
    ∙ ap (λ (l : List Event). l ++ candidates s c.args.self.now.hand) c.new-found.ensures.items
