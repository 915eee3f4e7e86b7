use Rattle.std.proofs.Common.{ap, subst}
use Rattle.std.specs.Prelude.{is_some}
use Rattle.table_steps.specs.Readings.{IsPhaseAs}
use Rattle.table_use.proofs.Opening.{can-arm, read-holds}
use Rattle.table_use.proofs.Roots.{root-hears, armed-root}
use Rattle.table_use.proofs.Readings.{registered-cause}
use Rattle.table_use.proofs.hearing.listens.Goals as goal

pub arm-requires-clause-needs : goal.arm-requires-clause-needs
arm-requires-clause-needs c κs =
    let going = c.requires.holds in
    can-arm c.args.table.now c.args.root c.requires.root.is_node going.0 c.args.hand.now.me c.phase_of.new.hand.me going.1 c.phase_of.result
    c.phase_of.ensures.phase (c.is_registered.ensures.never c.if-is_registered.false)
    (ap is_some (root-hears c.args.table.now c.args.root c.requires.root))

pub returns-clause-holds : goal.returns-clause-holds
returns-clause-holds c =
    armed-root c.args.table.now c.args.root c.requires.root c.args.hand.now.me c.requires.holds c.phase_of.result c.phase_of.new.hand c.arm.new.hand
    c.phase_of.ensures.phase c.arm.result c.arm.ensures.armed

pub returns-then-is_registered-clause-fault : goal.returns-then-is_registered-clause-fault
returns-then-is_registered-clause-fault c =
    let going = c.requires.holds in
    let read = c.phase_of.ensures.phase in
    registered-cause c.args.table.now c.args.root c.args.hand.now.me c.phase_of.new.hand.me c.phase_of.result
    (c.is_registered.ensures.once c.if-is_registered.true) read
    (read-holds c.args.table.now c.args.root c.requires.root.is_node going.0 c.args.hand.now.me c.phase_of.new.hand.me going.1 c.phase_of.result read)

pub returns-clause-heard : goal.returns-clause-heard
returns-clause-heard c =
    record {
      middle = c.phase_of.new.hand;
      read = subst (λ phase. IsPhaseAs c.args.table.now.frame c.args.root phase c.args.hand.now.me c.phase_of.new.hand.me)
          (c.is_registered.ensures.never c.if-is_registered.false) c.phase_of.ensures.phase;
      armed = c.arm.ensures.armed;
    }
