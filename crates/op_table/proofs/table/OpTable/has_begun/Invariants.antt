use Rattle.table_steps.specs.Views.{aim_at}
use Rattle.table_steps.specs.Readings.{above_it}
use Rattle.op_table.proofs.table.OpTable.has_begun.Given as goal

abbrev pub ghosts-read_child-K-Subject : goal.ghosts-read_child-K-Subject
ghosts-read_child-K-Subject g a = record { aim = aim_at a.self.now (above_it a.self.now.frame.tree a.child) }

abbrev pub ghosts-read_child-J-Subject : goal.ghosts-read_child-J-Subject
ghosts-read_child-J-Subject g a = record { aim = aim_at a.self.now a.child }
