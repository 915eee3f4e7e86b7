use Rattle.std.proofs.Common.{◌≡◌, ◌≤◌, map, pos, vec_capacity}
use Rattle.std.specs.List.{range_with_len}
use Rattle.exec_job.proofs.numbers.iota.Given as goal

abbrev pub invariant-loop-n : goal.invariant-loop-n
invariant-loop-n l = record {
  items : l.numbers.items ≡ map pos (range_with_len 0 l.n);
  room : l.count ≤ vec_capacity l.numbers;
}
