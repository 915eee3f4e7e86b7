use Rattle.std.proofs.Common.{[], ◌∷◌}
use Rattle.table_steps.specs.Views.{aim_at}
use Rattle.table_steps.specs.Readings.{above_it}
use Rattle.op_table.proofs.table.OpTable.report_below.Given as goal

abbrev pub ghosts-report_to-K-Subject : goal.ghosts-report_to-K-Subject
ghosts-report_to-K-Subject g a = record { aim = aim_at a.self.now (above_it a.self.now.frame.tree a.name) }

abbrev pub ghosts-report_to-J-Subject : goal.ghosts-report_to-J-Subject
ghosts-report_to-J-Subject g a = record { aim = aim_at a.self.now a.name }

abbrev pub ghosts-report_to-L-Keyed : goal.ghosts-report_to-L-Keyed
ghosts-report_to-L-Keyed g a = record { overs = a.self.now.frame.over.value ∷ [] }
