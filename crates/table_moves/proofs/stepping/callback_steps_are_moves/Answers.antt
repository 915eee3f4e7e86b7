use Rattle.table_moves.proofs.CallbackMoves.{arms-by_move, ends-run-by_move}
use Rattle.table_moves.proofs.WithdrawMoves.{withdraws-by_move, withdraws-own-by_move}
use Rattle.table_moves.proofs.stepping.callback_steps_are_moves.Goals as goal

pub returns : goal.returns
returns g c = record {
  arms = arms-by_move g.P.Cargo;
  ends = ends-run-by_move g.P.Cargo;
  withdraws = withdraws-by_move g.P.Cargo;
  withdraws_own = withdraws-own-by_move g.P.Cargo;
}
