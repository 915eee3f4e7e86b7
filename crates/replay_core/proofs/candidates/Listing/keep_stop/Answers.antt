use Rattle.replay_core.proofs.Kept.{keeps_join}
use Rattle.replay_core.proofs.candidates.Listing.keep_stop.Goals as goal

pub returns : goal.returns
returns c =
    keeps_join c.in_ok-keep_places.ensures
    (keeps_join c.in_ok-keep_looks.ensures
    (keeps_join c.in_ok-keep_requests.ensures
    (keeps_join c.in_ok-keep_runs.ensures
    (keeps_join c.in_ok-keep_places-2.ensures
    (keeps_join c.in_ok-keep_places-3.ensures
    (keeps_join c.in_ok-keep_places-4.ensures
    (keeps_join c.in_ok-keep_seal_scans.ensures c.in_ok-keep_blocks.ensures)))))))
