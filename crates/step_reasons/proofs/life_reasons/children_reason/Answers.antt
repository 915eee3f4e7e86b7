use Rattle.std.proofs.Common.{refl, sym, ◌∙◌, arith}
use Rattle.exec_life.specs.StateLists.{machine}
use Rattle.step_reasons.proofs.Children.{child-found, child-passed, children-passed}
use Rattle.step_reasons.proofs.Zeros.{none-from}
use Rattle.step_reasons.proofs.life_reasons.children_reason.Goals as goal

pub returns-in-Some : goal.returns-in-Some
returns-in-Some c =
    let s = machine c.args.state.now in
    sym
    (c.loop-child.invariant
    ∙ child-found s c.args.place c.args.children.now c.loop-child.child-index _ c.in-Some.fact c.loop-child-test.true refl (sym c.child_reason.ensures ∙ c.in-Some.is))

pub loop-child-preserved : goal.loop-child-preserved
loop-child-preserved c =
    let s = machine c.args.state.now in
    c.loop-child.invariant
    ∙ child-passed s c.args.place c.args.children.now c.loop-child.child-index _ c.loop-child-test.true refl (sym c.child_reason.ensures ∙ none-from c.child_reason.result c.in_default.not-Some)

pub returns : goal.returns
returns c =
    let s = machine c.args.state.now in
    sym (c.loop-child.invariant ∙ children-passed s c.args.place c.args.children.now c.loop-child.child-index (omega (arith, c.loop-child-test.false)))
