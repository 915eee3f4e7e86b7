use Rattle.std.proofs.Common.{take}
use Rattle.std.specs.List.{flat_map}
use Rattle.pictures.specs.Adding.{Adds}
use Rattle.pictures.specs.Plans.Drawing.{body_arrow_to}
use Rattle.pictures.proofs.plans.drawing.put_body_arrows.Given as goal

abbrev pub invariant-loop-fold : goal.invariant-loop-fold
invariant-loop-fold l =
    Adds l.initial.text.items l.text.items (flat_map (body_arrow_to l.number l.bodies) (take l.fold-index l.folds))
