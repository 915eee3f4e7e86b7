use Rattle.std.proofs.Common.{◌≡◌, ◌≤◌, ◌-◌, length, replicate, None, vec_capacity}
use Rattle.record_operations.proofs.tickets.free_tickets.Given as goal

abbrev pub invariant-fill : goal.invariant-fill
invariant-fill l = record {
  count : length l.free.items ≤ l.tickets;
  room : l.tickets ≤ vec_capacity l.free;
  are : l.free.items ≡ replicate (length l.free.items) None;
}

abbrev pub decreases-fill : goal.decreases-fill
decreases-fill l = l.tickets - length l.free.items
