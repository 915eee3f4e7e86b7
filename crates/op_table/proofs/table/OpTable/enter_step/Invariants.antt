use Rattle.op_table.proofs.table.OpTable.enter_step.Given as goal

abbrev pub ghosts-enter_at : goal.ghosts-enter_at
ghosts-enter_at g a = record { most = a.self.now.frame.most }
