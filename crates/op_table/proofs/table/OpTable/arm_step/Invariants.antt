use Rattle.table_steps.specs.Views.{aim_at}
use Rattle.op_table.proofs.table.OpTable.arm_step.Given as goal

abbrev pub ghosts-arm_at : goal.ghosts-arm_at
ghosts-arm_at g a = record { aim = aim_at a.self.now a.name }
