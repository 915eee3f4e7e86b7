use Rattle.replay_core.proofs.Kept.{keeps_join}
use Rattle.replay_core.proofs.candidates.Listing.keep_life.Goals as goal

pub returns : goal.returns
returns c =
    keeps_join c.in_ok-keep_blocks.ensures
    (keeps_join c.in_ok-keep_places.ensures
    (keeps_join c.in_ok-keep_awaits.ensures
    (keeps_join c.in_ok-keep_rests.ensures
    (keeps_join c.in_ok-keep_places-2.ensures
    (keeps_join c.in_ok-keep_places-3.ensures
    (keeps_join c.in_ok-keep_places-4.ensures c.in_ok-keep_blocks-2.ensures))))))
