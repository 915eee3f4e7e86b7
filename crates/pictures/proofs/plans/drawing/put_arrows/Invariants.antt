use Rattle.std.proofs.Common.{take}
use Rattle.std.specs.List.{flat_map}
use Rattle.pictures.specs.Adding.{Adds}
use Rattle.pictures.specs.Plans.Drawing.{arrow_to}
use Rattle.pictures.proofs.plans.drawing.put_arrows.Given as goal

abbrev pub invariant-loop-fold : goal.invariant-loop-fold
invariant-loop-fold l =
    Adds l.initial.text.items l.text.items (flat_map (arrow_to l.number l.children) (take l.fold-index l.folds))
