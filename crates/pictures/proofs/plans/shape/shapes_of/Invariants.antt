use Rattle.std.proofs.Common.{◌≡◌, take}
use Rattle.std.specs.Prelude.{map}
use Rattle.pictures.specs.Plans.Folds.{texts_of}
use Rattle.pictures.specs.Plans.Shapes.{shape_of}
use Rattle.pictures.proofs.plans.shape.shapes_of.Given as goal

abbrev pub invariant-loop-number : goal.invariant-loop-number
invariant-loop-number l = texts_of l.shapes.items ≡ map (shape_of l.plan.nodes l.steps) (take l.number-index l.numbers)
