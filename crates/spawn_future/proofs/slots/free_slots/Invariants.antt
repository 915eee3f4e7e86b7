use Rattle.std.proofs.Common.{◌≡◌, ◌≤◌, ◌-◌, length, replicate, None, vec_capacity}
use Rattle.spawn_future.proofs.slots.free_slots.Given as goal

abbrev pub invariant-fill : goal.invariant-fill
invariant-fill l = record {
  count : length l.free.items ≤ l.most;
  room : l.most ≤ vec_capacity l.free;
  are : l.free.items ≡ replicate (length l.free.items) None;
}

abbrev pub decreases-fill : goal.decreases-fill
decreases-fill l = l.most - length l.free.items
