use Rattle.std.proofs.Common.{refl, arith}
use Rattle.pictures.specs.Plans.Names.{kind_word}
use Rattle.pictures.proofs.PlanLaws.Folding.{texts-all, texts-more}
use Rattle.pictures.proofs.plans.lines.words_of_kinds.Goals as goal

pub loop-kind-preserved : goal.loop-kind-preserved
loop-kind-preserved c =
    texts-more kind_word c.args.kinds.now c.loop-kind.kind-index _ _ c.loop-kind.words.items c.push.new.self.items c.in_ok-word_of_kind.field-0
    c.in_ok-push.ensures.items c.loop-kind.invariant c.in_ok-word_of_kind.ensures (omega (arith, c.loop-kind-test.true)) refl

pub returns : goal.returns
returns c = texts-all kind_word c.args.kinds.now c.loop-kind.kind-index c.loop-kind.words.items c.loop-kind.invariant (omega (arith, c.loop-kind-test.false))
