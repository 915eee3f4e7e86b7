use Rattle.std.proofs.Common.{refl, None}
use Rattle.exec_life.proofs.view.View.begin_scan.Goals as goal

pub returns-in-At : goal.returns-in-At
returns-in-At c = rw (c.in-At.is, ← c.self.view_is) (record { cell = c.set.ensures.cell None; rest = refl })
