use Rattle.std.proofs.Common.{◌≡◌, ◌+◌, ◌*◌}
use Rattle.table_steps.specs.Views.{Stays}
use Rattle.stop_calls.specs.Asides.{ScansOn}
use Rattle.stop_calls.specs.Nestings.{Nests, depth_of, places_left}
use Rattle.exec_recv.specs.Actions.{ListsActions}
use Rattle.exec_recv.proofs.scans.+scanning.Given as goal

-- a callback's action runs scans of its own node's source alone, which come to sources that lie less deep
abbrev pub decreases-act : goal.decreases-act
decreases-act g l = 2 * l.place.node + 1

abbrev pub decreases-run_scan : goal.decreases-run_scan
decreases-run_scan g l = 2 * depth_of l.table.now.frame.tree l.scan.source

abbrev pub invariant-run_scan-loop-due : goal.invariant-run_scan-loop-due
invariant-run_scan-loop-due g l = record {
  stays : Stays l.table l.fn.hand l.hand;
  source : l.scan.source ≡ l.fn.scan.source;
  nests : Nests l.table l.scan l.hand.me;
  on : ScansOn l.fn.hand.me l.hand.me l.fn.scan.source;
  acts : ListsActions l.table l.plan l.fn.scan.source l.fn.hand.me l.hand.me;
}

abbrev pub decreases-run_scan-loop-due : goal.decreases-run_scan-loop-due
decreases-run_scan-loop-due g l = places_left l.table l.scan
