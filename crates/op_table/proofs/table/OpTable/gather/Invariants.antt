use Rattle.table_steps.specs.Views.{knows}
use Rattle.table_steps.specs.Closings.{IsGathering}
use Rattle.op_table.proofs.table.OpTable.gather.Given as goal

abbrev pub ghosts-join : goal.ghosts-join
ghosts-join g a = record { view = knows a.next }

abbrev pub invariant-loop-next : goal.invariant-loop-next
invariant-loop-next g l = IsGathering l.self l.fn.hands.items l.hands.items l.all

abbrev pub decreases-loop-next : goal.decreases-loop-next
decreases-loop-next g l = goal.left-loop-next g l
