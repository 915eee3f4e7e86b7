use Rattle.std.proofs.Common.{◌≡◌, ◌*◌, take}
use Rattle.exec_value.specs.Sum.{sum_of_data, IsWithin}
use Rattle.exec_value.specs.declared.limits.TheConstants.{NUMBERS}
use Rattle.exec_value.proofs.sum.sum_data.Given as goal

abbrev pub invariant-loop-datum : goal.invariant-loop-datum
invariant-loop-datum l = record {
  exact : l.sum ≡ sum_of_data (take l.datum-index l.values);
  within : IsWithin (NUMBERS * l.datum-index) l.sum;
}
