use Rattle.std.proofs.Common.{◌≡◌, ℕ, length, get_or, None}
use Rattle.record_operations.proofs.tickets.discard.Given as goal

abbrev pub invariant-empty : goal.invariant-empty
invariant-empty l = (t : ℕ) → get_or l.left.items t None ≡ None

abbrev pub decreases-empty : goal.decreases-empty
decreases-empty l = length l.left.items
