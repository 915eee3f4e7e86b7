use Rattle.std.proofs.Common.{take}
use Rattle.std.specs.List.{flat_map}
use Rattle.pictures.specs.Adding.{Adds}
use Rattle.pictures.specs.Plans.Folds.{one_folded, texts_of}
use Rattle.pictures.proofs.plans.folds.put_folded.Given as goal

abbrev pub invariant-loop-fold : goal.invariant-loop-fold
invariant-loop-fold l =
    Adds l.initial.text.items l.text.items (flat_map (one_folded (texts_of l.texts)) (take l.fold-index l.fold-items))
