use Rattle.std.proofs.Common.{◌≡◌, ◌++◌, ◌∷◌, [], length, None, ap, ◌∙◌, arith}
use Rattle.std.proofs.lemmas.List.{replicate_more}
use Rattle.sig_check.proofs.CheckLemmas.{blank, blanks-right}
use Rattle.sig_check.proofs.checking.blanks.Goals as goal

pub loop-preserved : goal.loop-preserved
loop-preserved c =
    c.in_ok-push.ensures.items
    ∙ ap (λ xs. xs ++ blank ∷ []) c.loop.invariant
    ∙ replicate_more c.loop.counter blank

pub returns : goal.returns
returns c =
    let nodes = c.args.plan.now.nodes in
    let all : c.loop.counter ≡ length nodes =
    omega (arith, c.loop.auto.counter-end, c.loop-test.false, c.size-end.ensures.size) in
    blanks-right nodes c.args.plan.now.settings.input c.loop.findings.items c.loop.counter c.loop.invariant all
