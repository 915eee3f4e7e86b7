use Rattle.std.proofs.Common.{◌≡◌, take}
use Rattle.exec_value.specs.Sum.{total, IsWithin}
use Rattle.exec_value.proofs.sum.sum_row.Given as goal

abbrev pub invariant-loop-number : goal.invariant-loop-number
invariant-loop-number l = record {
  exact : l.sum ≡ total (take l.number-index l.numbers);
  within : IsWithin l.number-index l.sum;
}
