use Rattle.std.proofs.Common.{◌≤◌}
use Rattle.table_steps.specs.Views.{AreFreshHands}
use Rattle.op_table.proofs.table.OpTable.all_hands.Given as goal

abbrev pub invariant-loop-number : goal.invariant-loop-number
invariant-loop-number g l = (1 ≤ l._number) × AreFreshHands l.self l._number l.all.items
