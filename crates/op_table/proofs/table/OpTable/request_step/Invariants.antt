use Rattle.std.specs.Prelude.{None}
use Rattle.op_table.proofs.table.OpTable.request_step.Given as goal

abbrev pub ghosts-request_at : goal.ghosts-request_at
ghosts-request_at g a = record { tree = a.self.now.frame.tree; source = a.source; after = None }
