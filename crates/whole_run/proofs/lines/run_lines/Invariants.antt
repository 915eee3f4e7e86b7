use Rattle.std.proofs.Common.{◌≡◌}
use Rattle.plan_shape.specs.Blueprint.{Blueprint}
use Rattle.table_steps.specs.Views.{Board}
use Rattle.whole_run.specs.Owns.{last_desk}
use Rattle.whole_run.proofs.lines.run_lines.Given as goal

-- the run is on this table, at the last desk, with a hand that claimed nothing
abbrev pub ghosts-run_on_table : goal.ghosts-run_on_table
ghosts-run_on_table g a = record {
  is = λ (board : Board Blueprint). board ≡ a.front.on.table.now;
  claimed = 0;
  desk = last_desk a.desks.now.items;
}
