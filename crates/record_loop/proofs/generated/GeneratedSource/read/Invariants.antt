use Rattle.std.proofs.Common.{◌≡◌, ◌≤◌, ◌-◌, ◌++◌, length, take}
use Rattle.record_loop.proofs.generated.GeneratedSource.read.Given as goal

abbrev pub invariant-filling : goal.invariant-filling
invariant-filling l = record {
  within : l.filled ≤ length l.buf;
  read : l.fn.self ≡ take l.filled l.buf ++ l.self;
}

abbrev pub decreases-filling : goal.decreases-filling
decreases-filling l = length l.buf - l.filled
