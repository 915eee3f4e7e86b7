use Rattle.std.specs.Mem.Slots.{slots_items}
use Rattle.table_steps.specs.Closings.{TellsOf}
use Rattle.op_table.proofs.close.remains_of.Given as goal

abbrev pub invariant-loop-block : goal.invariant-loop-block
invariant-loop-block g l = TellsOf l.layout (slots_items l.closed.words) l.block l.remains
