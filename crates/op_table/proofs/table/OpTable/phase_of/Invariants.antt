use Rattle.table_steps.specs.Views.{aim_at}
use Rattle.op_table.proofs.table.OpTable.phase_of.Given as goal

abbrev pub ghosts-read_phase : goal.ghosts-read_phase
ghosts-read_phase g a = record { aim = aim_at a.self.now a.name }
