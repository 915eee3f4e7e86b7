use Rattle.table_moves.proofs.LookMoves.{looks-by_move}
use Rattle.table_moves.proofs.RequestMoves.{requests-by_move}
use Rattle.table_moves.proofs.stepping.source_steps_are_moves.Goals as goal

pub returns : goal.returns
returns g c = record {
  requests = requests-by_move g.P.Cargo;
  looks = looks-by_move g.P.Cargo;
}
