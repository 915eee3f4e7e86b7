use Rattle.std.proofs.Common.{refl}
use Rattle.std.specs.Prelude.{false}
use Rattle.exec_life.proofs.view.View.set_unlooked.Goals as goal

pub returns : goal.returns
returns c = rw (← c.self.view_is) (record { cell = c.set.ensures.cell false; rest = refl })
