use Rattle.table_laws.proofs.callbacks.callbacks_run_once.Goals as goal
use Rattle.table_laws.proofs.Runs.{never-again, runs-once, removed-for_good}
use Rattle.table_laws.proofs.Misses.{misses-none}
use Rattle.table_laws.proofs.Lasting.{seal-misses_none}

pub returns : goal.returns
returns g c = record {
  never_again = never-again g.P.Cargo;
  runs_once = runs-once g.P.Cargo;
  removed_for_good = removed-for_good g.P.Cargo;
  misses_none = misses-none g.P.Cargo;
  seal_misses_none = seal-misses_none g.P.Cargo;
}
