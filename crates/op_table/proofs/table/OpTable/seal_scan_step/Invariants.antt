use Rattle.std.specs.Prelude.{None}
use Rattle.op_table.proofs.table.OpTable.seal_scan_step.Given as goal

abbrev pub ghosts-seal_scan_at : goal.ghosts-seal_scan_at
ghosts-seal_scan_at g a = record { tree = a.self.now.frame.tree; source = a.source; after = None }
