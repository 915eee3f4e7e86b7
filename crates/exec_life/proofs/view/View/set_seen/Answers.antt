use Rattle.std.proofs.Common.{refl}
use Rattle.std.specs.Prelude.{false}
use Rattle.exec_life.proofs.view.View.set_seen.Goals as goal

pub returns-in-At : goal.returns-in-At
returns-in-At c = rw (c.in-At.is, ← c.self.view_is) (record { cell = c.set.ensures.cell false; rest = refl })
