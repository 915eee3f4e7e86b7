use Rattle.std.specs.Prelude.{None}
use Rattle.table_steps.specs.Views.{aim_at}
use Rattle.table_steps.specs.Runs.{place_named}
use Rattle.op_table.proofs.table.OpTable.run_step.Given as goal

abbrev pub ghosts-run_at-K-Subject : goal.ghosts-run_at-K-Subject
ghosts-run_at-K-Subject g a = record { aim = aim_at a.self.now (place_named a.block a.node) }

abbrev pub ghosts-run_at-J-Regard : goal.ghosts-run_at-J-Regard
ghosts-run_at-J-Regard g a = record { tree = a.self.now.frame.tree; source = a.source; after = None }
