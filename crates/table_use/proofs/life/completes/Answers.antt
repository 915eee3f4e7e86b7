use Rattle.std.proofs.Common.{◌+◌, arith, inl, refl, sym, ap, ◌∙◌}
use Rattle.table_use.specs.Causes.{GoesOn}
use Rattle.table_use.proofs.Nodes.{own-name}
use Rattle.table_use.proofs.Steps.{on}
use Rattle.table_use.proofs.Reasons.{passed}
use Rattle.table_use.proofs.Noted.{noted-still}
use Rattle.table_use.proofs.Stopping.{stops-here, stops-within, stops-for}
use Rattle.table_use.proofs.life.completes.Goals as goal

pub waits-requires-clause-calm : goal.waits-requires-clause-calm
waits-requires-clause-calm c = c.begins.ensures.plays.scans ∙ c.requires.calm

pub returns-clause-number : goal.returns-clause-number
returns-clause-number c =
    c.in_ok-answer.ensures.number _
    (noted-still c.in_ok-block.root c.begins.new.hand.me c.keeps.new.hand.me _ (c.keeps.ensures.notes ∙ c.waits.ensures.notes) c.in_ok-block.ensures.noted)

pub returns-clause-answer : goal.returns-clause-answer
returns-clause-answer c =
    c.in_ok-answer.ensures.answer ∙ ap (λ s. c.in_ok-answer.answer.number + s) (sym c.requires.step)

pub returns-clause-emptied : goal.returns-clause-emptied
returns-clause-emptied c = (c.in_ok-block.block, c.in_ok-block.ensures.root.within, c.in_ok-answer.ensures.emptied)

pub returns-in_err-block-clause-fault : goal.returns-in_err-block-clause-fault
returns-in_err-block-clause-fault c = passed c.from_residual.result _ _ c.from_residual.ensures.1 (inl c.in_err-block.ensures.fault)

pub returns-in_err-waits-clause-fault : goal.returns-in_err-waits-clause-fault
returns-in_err-waits-clause-fault c =
    let at = c.in_ok-block.ensures in
    passed c.from_residual-in_err-waits.result _ _ c.from_residual-in_err-waits.ensures.1
    (stops-for c.args.table.now c.args.number c.args.hand.now c.waits.new.hand c.begins.new.hand.me c.in_ok-block.root _ at.root.is_root at.free
    c.waits.ensures.steps refl at.noted c.waits.ensures.notes _ c.in_err-waits.ensures.fault)

pub returns-in_err-answer-clause-fault : goal.returns-in_err-answer-clause-fault
returns-in_err-answer-clause-fault c =
    let at = c.in_ok-block.ensures in
    let root = c.in_ok-block.root in
    let board = c.args.table.now in
    let kept : GoesOn c.begins.new.hand.me c.keeps.new.hand.me = on c.begins.new.hand.me c.waits.new.hand.me c.keeps.new.hand.me
    c.waits.ensures.steps c.keeps.ensures.steps in
    passed c.from_residual-in_err-answer.result _ _ c.from_residual-in_err-answer.ensures.1
    (stops-for board c.args.number c.args.hand.now c.collects.new.hand c.begins.new.hand.me root _ at.root.is_root at.free
    (on c.begins.new.hand.me c.keeps.new.hand.me c.collects.new.hand.me kept c.in_err-answer.ensures.steps) refl at.noted
    (c.in_err-answer.ensures.notes ∙ c.keeps.ensures.notes ∙ c.waits.ensures.notes) _
    (stops-within board c.begins.new.hand.me c.keeps.new.hand.me c.collects.new.hand.me kept root _
    (stops-here board c.keeps.new.hand.me c.collects.new.hand.me root root 3 (omega arith) (own-name root 3 at.root.is_root.three) _
    c.in_err-answer.ensures.fault)))
