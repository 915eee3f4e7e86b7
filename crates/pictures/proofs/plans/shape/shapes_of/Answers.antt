use Rattle.std.proofs.Common.{refl, arith}
use Rattle.pictures.specs.Plans.Shapes.{shape_of}
use Rattle.pictures.proofs.PlanLaws.Folding.{texts-all, texts-more}
use Rattle.pictures.proofs.plans.shape.shapes_of.Goals as goal

pub loop-number-preserved : goal.loop-number-preserved
loop-number-preserved c =
    texts-more (shape_of c.args.plan.now.nodes c.args.steps) c.args.numbers.now c.loop-number.number-index _ _ c.loop-number.shapes.items c.push.new.self.items c.in_ok-one_shape.field-0
    c.in_ok-push.ensures.items c.loop-number.invariant c.in_ok-one_shape.ensures (omega (arith, c.loop-number-test.true)) refl

pub returns : goal.returns
returns c = texts-all (shape_of c.args.plan.now.nodes c.args.steps) c.args.numbers.now c.loop-number.number-index c.loop-number.shapes.items c.loop-number.invariant (omega (arith, c.loop-number-test.false))
