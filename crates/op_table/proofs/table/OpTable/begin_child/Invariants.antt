use Rattle.table_steps.specs.Views.{aim_at}
use Rattle.op_table.proofs.table.OpTable.begin_child.Given as goal

abbrev pub ghosts-await_at-K-Subject : goal.ghosts-await_at-K-Subject
ghosts-await_at-K-Subject g a = record { aim = aim_at a.self.now a.name }

abbrev pub ghosts-await_at-J-Naming : goal.ghosts-await_at-J-Naming
ghosts-await_at-J-Naming g a = record { names = a.children.now }

abbrev pub ghosts-renew : goal.ghosts-renew
ghosts-renew g a = record { aim = aim_at a.self.now a.name }

abbrev pub ghosts-begin_at : goal.ghosts-begin_at
ghosts-begin_at g a = record { aim = aim_at a.self.now a.name }
