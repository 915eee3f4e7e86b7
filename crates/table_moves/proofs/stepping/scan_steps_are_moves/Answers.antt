use Rattle.table_moves.proofs.RunMoves.{runs-by_move, passes-by_move}
use Rattle.table_moves.proofs.SkipMoves.{skips-by_move}
use Rattle.table_moves.proofs.SourceMoves.{seals-scan-by_move}
use Rattle.table_moves.proofs.stepping.scan_steps_are_moves.Goals as goal

pub returns : goal.returns
returns g c = record {
  runs = runs-by_move g.P.Cargo;
  passes = passes-by_move g.P.Cargo;
  skips = skips-by_move g.P.Cargo;
  seals = seals-scan-by_move g.P.Cargo;
}
