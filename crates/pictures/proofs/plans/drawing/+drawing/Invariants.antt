use Rattle.std.proofs.Common.{◌+◌, ◌*◌, take}
use Rattle.std.specs.List.{flat_map}
use Rattle.pictures.specs.Adding.{Adds}
use Rattle.pictures.specs.Plans.Drawing.{drawn_fold, drawn_from}
use Rattle.pictures.proofs.plans.drawing.+drawing.Given as goal

abbrev pub decreases-draw_from : goal.decreases-draw_from
decreases-draw_from l = 3 * l.steps

abbrev pub decreases-draw_each : goal.decreases-draw_each
decreases-draw_each l = 3 * l.steps + 2

abbrev pub decreases-draw_fold : goal.decreases-draw_fold
decreases-draw_fold l = 3 * l.steps + 1

abbrev pub invariant-draw_each-loop-fold : goal.invariant-draw_each-loop-fold
invariant-draw_each-loop-fold l =
    Adds l.initial.text.items l.text.items
    (flat_map (drawn_fold (drawn_from l.plan.nodes l.sigs l.steps) l.row.start l.row.numbers.now) (take l.fold-index l.row.folds.now))
