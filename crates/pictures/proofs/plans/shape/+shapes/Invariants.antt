use Rattle.std.proofs.Common.{◌+◌, ◌*◌, take}
use Rattle.std.specs.List.{flat_map}
use Rattle.pictures.specs.Adding.{Adds}
use Rattle.pictures.specs.Plans.Shapes.{shape_of}
use Rattle.pictures.proofs.plans.shape.+shapes.Given as goal

abbrev pub decreases-put_shape : goal.decreases-put_shape
decreases-put_shape l = 2 * l.steps

abbrev pub decreases-put_shapes : goal.decreases-put_shapes
decreases-put_shapes l = 2 * l.steps + 1

abbrev pub invariant-put_shapes-loop-number : goal.invariant-put_shapes-loop-number
invariant-put_shapes-loop-number l =
    Adds l.initial.text.items l.text.items
    (flat_map (shape_of l.plan.nodes l.steps) (take l.number-index l.numbers))
