use Rattle.std.proofs.Common.{◌≡◌, take}
use Rattle.std.specs.Prelude.{map}
use Rattle.pictures.specs.Plans.Folds.{texts_of}
use Rattle.pictures.specs.Plans.Names.{kind_word}
use Rattle.pictures.proofs.plans.lines.words_of_kinds.Given as goal

abbrev pub invariant-loop-kind : goal.invariant-loop-kind
invariant-loop-kind l = texts_of l.words.items ≡ map kind_word (take l.kind-index l.kinds)
