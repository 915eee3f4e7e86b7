use Rattle.table_steps.specs.Views.{aim_at}
use Rattle.op_table.proofs.table.OpTable.withdraw_step.Given as goal

abbrev pub ghosts-withdraw_at : goal.ghosts-withdraw_at
ghosts-withdraw_at g a = record { aim = aim_at a.self.now a.name }
