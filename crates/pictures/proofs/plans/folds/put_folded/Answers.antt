use Rattle.std.proofs.Common.{ap, ◌∙◌, refl, arith}
use Rattle.std.specs.List.{flat_map}
use Rattle.pictures.proofs.Joining.{Adds-each, Adds-more, Adds-same}
use Rattle.pictures.specs.Plans.Folds.{folded_text, one_folded, texts_of}
use Rattle.pictures.proofs.plans.folds.put_folded.Goals as goal

pub loop-fold-preserved : goal.loop-fold-preserved
loop-fold-preserved c =
    Adds-more (one_folded (texts_of c.args.texts.now)) c.as_slice-fold-items.result.now c.loop-fold.fold-index _ _
    c.loop-fold.invariant c.in_ok-put_fold.ensures (omega (arith, c.loop-fold-test.true)) refl

pub returns : goal.returns
unfolding folded_text
returns c =
    let one = one_folded (texts_of c.args.texts.now) in
    Adds-same (ap (flat_map one) (c.as_slice-fold-items.ensures.value ∙ c.in_ok-folds.ensures))
    (Adds-each one c.as_slice-fold-items.result.now c.loop-fold.fold-index c.loop-fold.invariant (omega (arith, c.loop-fold-test.false)))
