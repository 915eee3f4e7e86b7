use Rattle.std.proofs.Common.{arith}
use Rattle.std.proofs.lemmas.Int.{ints, to_z-of_z}
use Rattle.std.proofs.lemmas.List.Sums.{fold_more}
use Rattle.exec_value.proofs.sum.sum_row.Goals as goal

pub loop-number-preserved : goal.loop-number-preserved
loop-number-preserved c = record {
  exact = grind (arith, ints, to_z-of_z, fold_more);
  within = record { above = omega (arith, ints); below = omega (arith, ints) };
}
