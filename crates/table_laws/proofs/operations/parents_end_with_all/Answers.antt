use Rattle.table_laws.proofs.operations.parents_end_with_all.Goals as goal
use Rattle.table_laws.proofs.Bounds.{end-with_all, finish-with_all, hold-with_all, rest-with_all}

pub returns : goal.returns
returns g c = record {
  ended = end-with_all g.P.Cargo;
  finishes = finish-with_all g.P.Cargo;
  holds = hold-with_all g.P.Cargo;
  rests = rest-with_all g.P.Cargo;
}
