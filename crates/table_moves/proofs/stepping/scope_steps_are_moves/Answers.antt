use Rattle.table_moves.proofs.ScopeMoves.{enters-by_move, makes-by_move, leaves-by_move, closes-by_move, joins-by_move, seals-by_move}
use Rattle.table_moves.proofs.stepping.scope_steps_are_moves.Goals as goal

pub returns : goal.returns
returns g c = record {
  enters = enters-by_move g.P.Cargo;
  makes = makes-by_move g.P.Cargo;
  leaves = leaves-by_move g.P.Cargo;
  closes = closes-by_move g.P.Cargo;
  joins = joins-by_move g.P.Cargo;
  seals = seals-by_move g.P.Cargo;
}
