use Rattle.table_steps.specs.Views.{aim_at}
use Rattle.op_table.proofs.table.OpTable.begin.Given as goal

abbrev pub ghosts-renew : goal.ghosts-renew
ghosts-renew g a = record { aim = aim_at a.self.now a.name }

abbrev pub ghosts-begin_at : goal.ghosts-begin_at
ghosts-begin_at g a = record { aim = aim_at a.self.now a.name }
