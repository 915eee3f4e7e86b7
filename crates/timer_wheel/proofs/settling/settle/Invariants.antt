use Rattle.std.proofs.Common.{count_by}
use Rattle.timer_wheel.specs.Settling.{IsSettledBut}
use Rattle.timer_wheel.proofs.SettlingLaws.{is_home}
use Rattle.timer_wheel.proofs.settling.settle.Given as goal

abbrev pub invariant-loop-place : goal.invariant-loop-place
invariant-loop-place l = IsSettledBut l.bucket l.turn l.due_turns l.lists

abbrev pub decreases-loop-place : goal.decreases-loop-place
decreases-loop-place l = count_by (is_home l.bucket) l.lists
