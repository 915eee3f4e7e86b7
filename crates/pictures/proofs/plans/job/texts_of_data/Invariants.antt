use Rattle.std.proofs.Common.{◌≡◌, take}
use Rattle.std.specs.Prelude.{map}
use Rattle.pictures.specs.Plans.Folds.{texts_of}
use Rattle.pictures.specs.Plans.Words.{datum_text}
use Rattle.pictures.proofs.plans.job.texts_of_data.Given as goal

abbrev pub invariant-loop-value : goal.invariant-loop-value
invariant-loop-value l = texts_of l.texts.items ≡ map datum_text (take l.value-index l.values)
