use Rattle.std.proofs.Common.{◌≤◌, length}
use Rattle.home_items.specs.Entries.{carried_of, no_row}
use Rattle.step_parts.proofs.AllStarted.{IsPutting}
use Rattle.exec_all.specs.Starts.{HasLast}
use Rattle.exec_all.proofs.beginning.start_all.Given as goal

abbrev pub decreases-loop-left : goal.decreases-loop-left
decreases-loop-left g l = l.left

abbrev pub invariant-loop-left : goal.invariant-loop-left
invariant-loop-left g l = record {
  within : l.left ≤ length l.children;
  putting : IsPutting l.site l.name l.above.start no_row l.children l.left l.initial.hand l.hand;
  copies : HasLast (carried_of l.above.start) l.left l.copies;
}
