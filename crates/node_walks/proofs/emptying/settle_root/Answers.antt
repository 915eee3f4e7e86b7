use Rattle.op_slot.proofs.Staying.{stays-on}
use Rattle.node_walks.proofs.Settled.{can-read, read-settled, read-empty, read-keeps, read-moves, read-owed, may-withdraw, armed-settled, ran-settled, settled-on}
use Rattle.node_walks.proofs.emptying.settle_root.Goals as goal

pub phase_of-requires-clause-holds : goal.phase_of-requires-clause-holds
phase_of-requires-clause-holds c κs = can-read c.args.table.now c.args.root c.args.hand.now.me c.requires.empty

pub returns-then-not-may_run-clause-settles : goal.returns-then-not-may_run-clause-settles
returns-then-not-may_run-clause-settles c =
    read-settled c.args.table.now c.args.root c.args.hand.now.me c.phase_of.new.hand.me c.requires.empty c.phase_of.result
    c.phase_of.ensures.phase (c.may_run.ensures.no c.if-not-may_run.true)

pub try_withdraw-requires-clause-needs : goal.try_withdraw-requires-clause-needs
try_withdraw-requires-clause-needs c κs =
    may-withdraw c.args.table.now c.args.root c.args.hand.now.me c.phase_of.new.hand.me c.requires.empty c.phase_of.result
    c.phase_of.ensures.phase (c.may_run.ensures.yes c.if-not-may_run.false)

pub returns-in-NeverRan-clause-stays : goal.returns-in-NeverRan-clause-stays
returns-in-NeverRan-clause-stays c =
    stays-on c.args.table.now c.args.hand.now c.phase_of.new.hand c.try_withdraw.new.hand c.phase_of.ensures.stays c.try_withdraw.ensures.stays

pub returns-in-Ran-clause-stays : goal.returns-in-Ran-clause-stays
returns-in-Ran-clause-stays c =
    stays-on c.args.table.now c.args.hand.now c.phase_of.new.hand c.try_withdraw.new.hand c.phase_of.ensures.stays c.try_withdraw.ensures.stays

pub returns-in-NeverRan-clause-settles : goal.returns-in-NeverRan-clause-settles
returns-in-NeverRan-clause-settles c =
    let board = c.args.table.now in
    let x = c.args.root in
    let old = c.args.hand.now.me in
    let read = c.phase_of.new.hand in
    let phase = c.phase_of.result in
    settled-on board x old read.me c.try_withdraw.new.hand.me (read-keeps board x old read.me c.requires.empty phase c.phase_of.ensures.phase)
    (read-moves board x old read.me c.requires.empty phase c.phase_of.ensures.phase)
    (read-owed board x old read.me c.requires.empty phase c.phase_of.ensures.phase)
    (armed-settled board x read c.try_withdraw.new.hand
    (read-empty board x old read.me c.requires.empty phase c.phase_of.ensures.phase) c.in-NeverRan.ensures.tried)

pub returns-in-Ran-clause-settles : goal.returns-in-Ran-clause-settles
returns-in-Ran-clause-settles c =
    let board = c.args.table.now in
    let x = c.args.root in
    let old = c.args.hand.now.me in
    let read = c.phase_of.new.hand in
    let phase = c.phase_of.result in
    settled-on board x old read.me c.try_withdraw.new.hand.me (read-keeps board x old read.me c.requires.empty phase c.phase_of.ensures.phase)
    (read-moves board x old read.me c.requires.empty phase c.phase_of.ensures.phase)
    (read-owed board x old read.me c.requires.empty phase c.phase_of.ensures.phase)
    (ran-settled board x read c.try_withdraw.new.hand
    (read-empty board x old read.me c.requires.empty phase c.phase_of.ensures.phase) c.in-Ran.ensures.tried)
