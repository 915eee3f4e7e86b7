use Rattle.table_steps.specs.Views.{aim_at}
use Rattle.op_table.proofs.table.OpTable.end_run_step.Given as goal

abbrev pub ghosts-end_run_at : goal.ghosts-end_run_at
ghosts-end_run_at g a = record { aim = aim_at a.self.now a.name }
