use Rattle.std.proofs.Common.{[], ◌∷◌}
use Rattle.table_steps.specs.Claims.{root_aim}
use Rattle.op_table.proofs.table.OpTable.release_step.Given as goal

abbrev pub ghosts-release_at-K-Subject : goal.ghosts-release_at-K-Subject
ghosts-release_at-K-Subject g a =
    record { aim = root_aim a.self.now a.block.index a.block.generation }

abbrev pub ghosts-release_at-J-Site : goal.ghosts-release_at-J-Site
ghosts-release_at-J-Site g a = record { frames = a.self.now.frame ∷ []; hand = a.seat.now.id }
