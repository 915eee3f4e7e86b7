use Rattle.replay_core.proofs.Kept.{keeps_join}
use Rattle.replay_core.proofs.candidates.Listing.keep_rests_at.Goals as goal

pub returns : goal.returns
returns c =
    keeps_join c.in_ok-keep.ensures
    (keeps_join c.in_ok-keep-2.ensures c.in_ok-keep-3.ensures)
