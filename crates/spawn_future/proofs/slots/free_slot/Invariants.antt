use Rattle.std.proofs.Common.{ℕ, ◌<◌, get_or, None}
use Rattle.std.specs.Prelude.{IsSome}
use Rattle.spawn_future.proofs.slots.free_slot.Given as goal

abbrev pub invariant-loop-slot : goal.invariant-loop-slot
invariant-loop-slot l = (k : ℕ) → k < l.slot → IsSome (get_or l.slots k None)
