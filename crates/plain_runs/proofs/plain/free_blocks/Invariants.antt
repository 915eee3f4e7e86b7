use Rattle.std.proofs.Common.{◌≡◌, ◌≤◌, ◌-◌, length, replicate, None}
use Rattle.plain_runs.proofs.plain.free_blocks.Given as goal

abbrev pub invariant-fill : goal.invariant-fill
invariant-fill l = record {
  count : length l.free.items ≤ l.blocks;
  are : l.free.items ≡ replicate (length l.free.items) None;
}

abbrev pub decreases-fill : goal.decreases-fill
decreases-fill l = l.blocks - length l.free.items
