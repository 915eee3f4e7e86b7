use Rattle.table_steps.specs.Views.{aim_at}
use Rattle.op_table.proofs.table.OpTable.finish.Given as goal

abbrev pub ghosts-finish_at : goal.ghosts-finish_at
ghosts-finish_at g a = record { aim = aim_at a.self.now a.name }
