use Rattle.plan_reader.proofs.LevelLemmas.{levels-suffice}
use Rattle.plan_reader.proofs.law.levels_suffice.Goals as goal

pub returns : goal.returns
returns c = levels-suffice
