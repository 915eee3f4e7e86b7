use Rattle.std.proofs.Common.{refl}
use Rattle.life_rules.specs.Words.{clear}
use Rattle.exec_life.proofs.words.Words.set_source.Goals as goal

pub returns-in-At : goal.returns-in-At
returns-in-At c = rw (c.in-At.is, ← c.self.view_is) (record { word_is = c.set.ensures.cell clear; rest = refl })
