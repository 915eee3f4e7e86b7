use Rattle.table_laws.proofs.operations.operations_end_once.Goals as goal
use Rattle.table_laws.proofs.Ends.{done-is_over, parents-wait, releases-quiet}
use Rattle.table_laws.proofs.Lasting.{done-for_good}

pub returns : goal.returns
returns g c = record {
  done_is_over = done-is_over g.P.Cargo;
  done_for_good = done-for_good g.P.Cargo;
  parents_wait = parents-wait g.P.Cargo;
  releases_quiet = releases-quiet g.P.Cargo;
}
