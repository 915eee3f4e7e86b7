use Rattle.table_use.specs.declared.node.Fault.TheVariants.{Order}
use Rattle.table_use.proofs.Forwarding.{leaf-reports}
use Rattle.table_use.proofs.Readings.{just-within, order-cause}
use Rattle.table_use.proofs.Reasons.{passed, stop-in, started}
use Rattle.table_use.proofs.failing.fails.Goals as goal

pub report-requires-clause-needs : goal.report-requires-clause-needs
report-requires-clause-needs c κs =
    leaf-reports c.args.table.now c.in_ok-root.root c.in_ok-root.ensures.root c.beside.result c.beside.ensures c.tells.new.hand.me
    c.tells.ensures.failed c.tells.ensures.idle

pub returns-in_err-root-clause-fault : goal.returns-in_err-root-clause-fault
returns-in_err-root-clause-fault c = passed c.from_residual.result _ _ c.from_residual.ensures.1 c.in_err-root.ensures.fault

pub returns-in_err-answer-clause-fault : goal.returns-in_err-answer-clause-fault
returns-in_err-answer-clause-fault c =
    let root = c.in_ok-root.root in
    passed c.from_residual-in_err-answer.result _ _ c.from_residual-in_err-answer.ensures.1
    (started c.args.table.now c.args.hand.now c.tells.new.hand c.starts.new.hand.me root c.in_ok-root.ensures.root c.in_ok-root.ensures.free _
    (stop-in c.args.table.now c.starts.new.hand.me c.tells.new.hand.me root _ c.in_err-answer.ensures.fault))

pub returns-in-Last-clause-fault : goal.returns-in-Last-clause-fault
returns-in-Last-clause-fault c =
    let board = c.args.table.now in
    let root = c.in_ok-root.root in
    started board c.args.hand.now c.report.new.hand c.starts.new.hand.me root c.in_ok-root.ensures.root c.in_ok-root.ensures.free Order
    (just-within board _ _ c.starts.new.hand.me c.tells.new.hand.me c.report.new.hand.me c.in_ok-answer.ensures.steps
    (order-cause board root c.in_ok-root.ensures.root c.beside.result c.beside.ensures c.tells.new.hand.me c.report.new.hand.me
    c.in-Last.ensures.reported))
