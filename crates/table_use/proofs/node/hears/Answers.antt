use Rattle.table_use.specs.declared.node.Fault.TheVariants.{Asked}
use Rattle.table_use.proofs.Nodes.{node-hears}
use Rattle.table_use.proofs.Opening.{can-arm, read-holds, armed-holds}
use Rattle.table_use.proofs.Steps.{on, phase-on, armed-on}
use Rattle.table_use.proofs.Readings.{registered-cause, heard-cause}
use Rattle.table_use.proofs.Reasons.{registered-here, start-within}
use Rattle.table_use.proofs.node.hears.Goals as goal

pub arm-requires-clause-needs : goal.arm-requires-clause-needs
arm-requires-clause-needs c κs =
    can-arm c.args.table.now c.args.x c.requires.node c.requires.holds.0 c.args.hand.now.me c.phase_of.new.hand.me c.requires.holds.1 c.phase_of.result
    c.phase_of.ensures.phase (c.is_registered.ensures.never c.if-is_registered.false) (node-hears c.args.table.now c.args.x c.requires.node c.requires.inner)

pub returns-in-Quiet-clause-holds : goal.returns-in-Quiet-clause-holds
returns-in-Quiet-clause-holds c =
    λ env.
    armed-holds c.args.table.now c.args.x c.requires.node env c.args.hand.now.me c.phase_of.result c.phase_of.new.hand
    c.arm.new.hand c.phase_of.ensures.phase c.arm.result c.arm.ensures.armed

pub returns-in-Quiet-clause-steps : goal.returns-in-Quiet-clause-steps
returns-in-Quiet-clause-steps c =
    on c.args.hand.now.me c.phase_of.new.hand.me c.arm.new.hand.me
    (phase-on c.args.table.now c.args.x c.args.hand.now.me c.phase_of.new.hand.me c.phase_of.result c.phase_of.ensures.phase)
    (armed-on c.args.table.now c.phase_of.new.hand c.arm.new.hand c.args.x c.arm.result c.arm.ensures.armed)

pub returns-then-is_registered-clause-fault : goal.returns-then-is_registered-clause-fault
returns-then-is_registered-clause-fault c =
    let read = c.phase_of.ensures.phase in
    registered-here c.args.table.now c.args.hand.now.me c.phase_of.new.hand.me c.args.x c.requires.inner
    (registered-cause c.args.table.now c.args.x c.args.hand.now.me c.phase_of.new.hand.me c.phase_of.result
    (c.is_registered.ensures.once c.if-is_registered.true) read
    (read-holds c.args.table.now c.args.x c.requires.node c.requires.holds.0 c.args.hand.now.me c.phase_of.new.hand.me c.requires.holds.1
    c.phase_of.result read))

pub returns-in-Asked-clause-fault : goal.returns-in-Asked-clause-fault
returns-in-Asked-clause-fault c =
    start-within c.args.table.now c.args.hand.now.me c.phase_of.new.hand.me c.arm.new.hand.me
    (phase-on c.args.table.now c.args.x c.args.hand.now.me c.phase_of.new.hand.me c.phase_of.result c.phase_of.ensures.phase) c.args.x Asked
    (heard-cause c.args.table.now c.args.x c.requires.node c.requires.inner c.phase_of.new.hand c.arm.new.hand c.in-Asked.ensures.armed)
