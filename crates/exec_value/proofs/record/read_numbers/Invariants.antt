use Rattle.std.proofs.Common.{◌≡◌, ◌≤◌, map, length, Some}
use Rattle.exec_value.specs.Record.{ints_of}
use Rattle.exec_value.specs.declared.limits.TheConstants.{NUMBERS}
use Rattle.exec_value.proofs.record.read_numbers.Given as goal

abbrev pub invariant-loop-part : goal.invariant-loop-part
invariant-loop-part l = record {
  so_far : ints_of (map (λ part. part.now) l.yielded) ≡ Some l.numbers.items;
  few : length l.numbers.items ≤ NUMBERS;
}
