use Rattle.table_steps.specs.Views.{aim_at}
use Rattle.op_table.proofs.table.OpTable.skip_step.Given as goal

abbrev pub ghosts-skip_at : goal.ghosts-skip_at
ghosts-skip_at g a = record { aim = aim_at a.self.now a.first }
