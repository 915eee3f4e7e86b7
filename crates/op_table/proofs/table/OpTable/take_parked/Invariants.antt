use Rattle.std.proofs.Common.{[], ◌∷◌}
use Rattle.table_steps.specs.Views.{aim_at}
use Rattle.op_table.proofs.table.OpTable.take_parked.Given as goal

abbrev pub ghosts-take_at-K-Subject : goal.ghosts-take_at-K-Subject
ghosts-take_at-K-Subject g a = record { aim = aim_at a.self.now a.name }

abbrev pub ghosts-take_at-J-Keyed : goal.ghosts-take_at-J-Keyed
ghosts-take_at-J-Keyed g a = record { overs = a.self.now.frame.over.value ∷ [] }
