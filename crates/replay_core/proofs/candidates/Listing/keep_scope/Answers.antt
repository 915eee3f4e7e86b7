use Rattle.std.proofs.Common.{ap, ◌∙◌}
use Rattle.life_rules.specs.declared.event.Event.TheVariants.{Seal}
use Rattle.replay_core.proofs.Kept.{keeps_join, keeps_same}
use Rattle.replay_core.proofs.candidates.Listing.keep_scope.Goals as goal

pub returns : goal.returns
returns c =
    keeps_join c.in_ok-keep_places.ensures
    (keeps_join (keeps_same c.event.ensures c.in_ok-keep.ensures)
    (keeps_join (keeps_same c.event-2.ensures c.in_ok-keep-2.ensures)
    (keeps_join (keeps_same c.event-3.ensures c.in_ok-keep-3.ensures)
    (keeps_join (keeps_same c.event-4.ensures c.in_ok-keep-4.ensures)
    (keeps_join (keeps_same c.event-5.ensures c.in_ok-keep-5.ensures)
    (keeps_same (ap Seal (c.scope-expected.ensures ∙ c.words.ensures.tells.scope)) c.in_ok-keep-6.ensures))))))
