use Rattle.life_laws.proofs.operations.operations_end_once.Goals as goal
use Rattle.life_laws.proofs.Laws.{finishes-once, stays-done, waits-parent, releases-quiet}

pub returns : goal.returns
returns c = record { finishes_once = finishes-once; stays_done = stays-done; parents_wait = waits-parent; releases_quiet = releases-quiet }
