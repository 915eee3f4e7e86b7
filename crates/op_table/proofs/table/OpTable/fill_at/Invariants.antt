use Rattle.table_steps.specs.Views.{aim_at}
use Rattle.op_table.proofs.table.OpTable.fill_at.Given as goal

abbrev pub ghosts-turn_to : goal.ghosts-turn_to
ghosts-turn_to g a = record { aim = aim_at a.self.now a.name }
