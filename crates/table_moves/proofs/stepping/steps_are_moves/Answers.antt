use Rattle.table_moves.proofs.stepping.steps_are_moves.Goals as goal
use Rattle.table_moves.proofs.MovesOn.{reports-by_move, rouses-by_move}
use Rattle.table_moves.proofs.Moves.{loads-move_nothing, begins-by_move, takes-by_move}
use Rattle.table_moves.proofs.LeaveMoves.{rests-by_move, awaits-by_move, finishes-by_move}

pub returns : goal.returns
returns g c = record {
  loads = loads-move_nothing g.P.Cargo;
  begins = begins-by_move g.P.Cargo;
  takes = takes-by_move g.P.Cargo;
  rests = rests-by_move g.P.Cargo;
  awaits = awaits-by_move g.P.Cargo;
  finishes = finishes-by_move g.P.Cargo;
  reports = reports-by_move g.P.Cargo;
  rouses = rouses-by_move g.P.Cargo;
}
