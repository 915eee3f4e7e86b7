use Rattle.std.specs.Prelude.{◌≡◌, ◌+◌, ◌*◌, ◌≤◌}
use Rattle.node_tree.specs.declared.node.TheConstants.{MOST_NODES}
use Rattle.life_rules.specs.declared.limits.TheConstants.{MOST_BLOCKS}
use Rattle.table_steps.specs.Views.{IsHandOf}
use Rattle.stop_calls.specs.Nestings.{Scans, places_left}
use Rattle.table_use.specs.Uses.{KeepsReports, KeepsHoldings}
use Rattle.table_use.specs.Scans.{other_scans}
use Rattle.table_use.specs.Counts.{RunsSome}
use Rattle.table_use.specs.Causes.{GoesOn}
use Rattle.table_use.proofs.scans.runs_out.Given as goal

abbrev pub invariant-loop-place : goal.invariant-loop-place
invariant-loop-place l = record {
  table : IsHandOf l.table l.hand;
  scans : Scans l.table l.scan l.hand.me;
  source : l.scan.source ≡ l.fn.scan.source;
  runs : l.hand.me.0.runs ≡ l.fn.hand.me.0.runs;
  others : other_scans l.fn.scan.source l.hand.me ≡ other_scans l.fn.scan.source l.fn.hand.me;
  reports : KeepsReports l.fn.hand.me l.hand.me;
  holds : KeepsHoldings l.fn.hand.me l.hand.me;
  steps : GoesOn l.fn.hand.me l.hand.me;
  few : l.count + places_left l.table l.scan ≤ MOST_NODES * MOST_BLOCKS;
  ran : RunsSome l.table l.count l.fn.scan l.scan l.fn.hand l.hand;
}

abbrev pub decreases-loop-place : goal.decreases-loop-place
decreases-loop-place l = places_left l.table l.scan
