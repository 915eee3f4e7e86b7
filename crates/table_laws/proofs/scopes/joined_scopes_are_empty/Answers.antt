use Rattle.table_laws.proofs.scopes.joined_scopes_are_empty.Goals as goal
use Rattle.table_laws.proofs.Misses.{joined-is_empty}
use Rattle.table_laws.proofs.Lasting.{sealed-is_empty}

pub returns : goal.returns
returns g c = record { joined = joined-is_empty g.P.Cargo; sealed = sealed-is_empty g.P.Cargo }
