use Rattle.std.proofs.Common.{refl}
use Rattle.exec_life.specs.declared.view.Role.TheVariants.{Nothing}
use Rattle.exec_life.proofs.view.View.set_role.Goals as goal

pub returns : goal.returns
returns c = rw (← c.self.view_is) (record { cell = c.set.ensures.cell Nothing; rest = refl })
