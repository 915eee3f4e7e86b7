use Rattle.life_laws.proofs.callbacks.callbacks_run_once.Goals as goal
use Rattle.life_laws.proofs.Laws.{runs-once, stays-removed, misses-none}

pub returns : goal.returns
returns c = record { runs_once = runs-once; stays_removed = stays-removed; misses_none = misses-none }
