use Rattle.std.proofs.Common.{arith}
use Rattle.std.proofs.lemmas.Int.{ints}
use Rattle.exec_value.proofs.SumLemmas.{sum_of_data_more}
use Rattle.exec_value.proofs.sum.sum_data.Goals as goal

pub loop-datum-preserved : goal.loop-datum-preserved
loop-datum-preserved c =
    let more = sum_of_data_more c.args.values.now c.loop-datum.datum-index c.datum-item.result c.datum-item.result c.datum-item.is c.loop-datum-test.true in
    record {
      exact = omega (arith, ints, more);
      within = record { above = omega (arith, ints); below = omega (arith, ints) };
    }
