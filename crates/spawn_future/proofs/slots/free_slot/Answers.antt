use Rattle.std.proofs.Common.{rules}
use Rattle.spawn_future.proofs.slots.free_slot.Goals as goal

pub loop-slot-preserved : goal.loop-slot-preserved
loop-slot-preserved c = search rules
