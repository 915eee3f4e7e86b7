use Rattle.table_steps.specs.Views.{aim_at}
use Rattle.op_table.proofs.table.OpTable.withdraw_own_step.Given as goal

abbrev pub ghosts-withdraw_own_at : goal.ghosts-withdraw_own_at
ghosts-withdraw_own_at g a = record { aim = aim_at a.self.now a.name }
