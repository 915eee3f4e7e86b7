use Rattle.table_moves.proofs.BlockMoves.{claims-by_move}
use Rattle.table_moves.proofs.ReleaseMoves.{releases-by_move}
use Rattle.table_moves.proofs.stepping.block_steps_are_moves.Goals as goal

pub returns : goal.returns
returns g c = record {
  claims = claims-by_move g.P.Cargo;
  releases = releases-by_move g.P.Cargo;
}
