use Rattle.table_laws.proofs.scopes.scope_bits_stay.Goals as goal
use Rattle.table_laws.proofs.Lasting.{bits-stay, made-is_used}

pub returns : goal.returns
returns g c = record { stay = bits-stay g.P.Cargo; used = made-is_used g.P.Cargo }
