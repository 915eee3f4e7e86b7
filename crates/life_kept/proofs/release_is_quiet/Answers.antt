use Rattle.life_kept.proofs.release_is_quiet.Goals as goal
use Rattle.life_kept.proofs.Quiet.{quiet-at_release}

pub returns : goal.returns
returns c = quiet-at_release
