use Rattle.op_table.proofs.table.OpTable.look_step.Given as goal

abbrev pub ghosts-look_after : goal.ghosts-look_after
ghosts-look_after g a = record { tree = a.self.now.frame.tree; source = a.source; after = a.after }
