use Rattle.std.proofs.Common.{◌≡◌, ℕ, ◌<◌, get_or, None}
use Rattle.spawn_future.specs.Slots.{waited_block}
use Rattle.spawn_future.proofs.slots.find.Given as goal

abbrev pub invariant-loop-slot : goal.invariant-loop-slot
invariant-loop-slot l = (k : ℕ) → k < l.slot → waited_block l.owner (get_or l.slots k None) ≡ None
