use Rattle.std.specs.Prelude.{◌-◌, ◌*◌, length}
use Rattle.table_steps.specs.Views.{Stays}
use Rattle.stop_calls.specs.Cursors.{cursor}
use Rattle.stop_calls.proofs.Walking.{IsWalking}
use Rattle.stop_calls.proofs.scanning.Scan.next.Given as goal

abbrev pub invariant-loop-place : goal.invariant-loop-place
invariant-loop-place g l = record {
  stays : Stays l.table l.fn.hand l.hand;
  walk : IsWalking l.table l.fn.self l.fn.hand l.self l.read l.hand;
}

-- so many places are left
abbrev pub decreases-loop-place : goal.decreases-loop-place
decreases-loop-place g l =
    length l.table.frame.tree * l.table.frame.layout.blocks - cursor l.table.frame.tree l.self
