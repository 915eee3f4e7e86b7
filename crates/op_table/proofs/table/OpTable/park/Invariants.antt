use Rattle.table_steps.specs.Views.{aim_at}
use Rattle.op_table.proofs.table.OpTable.park.Given as goal

abbrev pub ghosts-rest_at : goal.ghosts-rest_at
ghosts-rest_at g a = record { aim = aim_at a.self.now a.name }
