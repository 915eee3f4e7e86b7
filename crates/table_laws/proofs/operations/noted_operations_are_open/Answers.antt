use Rattle.table_laws.proofs.operations.noted_operations_are_open.Goals as goal
use Rattle.table_laws.proofs.Noted.{noted-is_open}

pub returns : goal.returns
returns g c = noted-is_open g.P.Cargo
