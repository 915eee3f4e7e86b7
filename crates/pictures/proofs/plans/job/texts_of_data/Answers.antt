use Rattle.std.proofs.Common.{arith}
use Rattle.pictures.specs.Plans.Words.{datum_text}
use Rattle.pictures.proofs.PlanLaws.Folding.{texts-all, texts-more}
use Rattle.pictures.proofs.plans.job.texts_of_data.Goals as goal

pub loop-value-preserved : goal.loop-value-preserved
loop-value-preserved c =
    texts-more datum_text c.args.values.now c.loop-value.value-index c.value-item.result _ c.loop-value.texts.items c.push.new.self.items c.in_ok-text_of_datum.field-0
    c.in_ok-push.ensures.items c.loop-value.invariant c.in_ok-text_of_datum.ensures (omega (arith, c.loop-value-test.true)) c.value-item.is

pub returns : goal.returns
returns c = texts-all datum_text c.args.values.now c.loop-value.value-index c.loop-value.texts.items c.loop-value.invariant (omega (arith, c.loop-value-test.false))
