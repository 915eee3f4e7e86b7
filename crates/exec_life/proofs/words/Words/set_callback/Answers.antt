use Rattle.std.proofs.Common.{refl}
use Rattle.life_rules.specs.declared.words.CallbackPhase.TheVariants.{Never}
use Rattle.exec_life.proofs.words.Words.set_callback.Goals as goal

pub returns : goal.returns
returns c = rw (← c.self.view_is) (record { word_is = c.set.ensures.cell Never; rest = refl })
