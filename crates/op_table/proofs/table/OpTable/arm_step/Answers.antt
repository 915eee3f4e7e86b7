use Rattle.std.proofs.Common.{sym, ap, subst}
use Rattle.table_steps.specs.Views.{IsHandOf, Stays, knows}
use Rattle.table_steps.specs.Callbacks.{CanArm, IsArmed}
use Rattle.op_table.proofs.Remembered.{remembers-still}
use Rattle.op_table.proofs.table.OpTable.arm_step.Goals as goal

pub arm_at-requires-clause-table : goal.arm_at-requires-clause-table
arm_at-requires-clause-table g c κs _ =
    subst (IsHandOf c.args.self.now) (sym c.hand.view_is) c.requires.table

pub arm_at-requires-clause-needs : goal.arm_at-requires-clause-needs
arm_at-requires-clause-needs g c κs _ =
    subst (λ s. CanArm c.args.self.now.frame.tree (knows s) c.args.name)
    (sym c.hand.view_is) c.requires.needs

pub invariant_of-hand : goal.invariant_of-hand
invariant_of-hand g c =
    let is = c.arm_at.ensures.armed.me_is in
    remembers-still c.hand.invariant c.arm_at.ensures.stays.same.0
    (ap (λ m. m.0.owed) is, ap (λ m. m.0.runs) is)

pub returns-clause-stays : goal.returns-clause-stays
returns-clause-stays g c =
    subst (λ s. Stays c.args.self.now s c.arm_at.new.seat) c.hand.view_is c.arm_at.ensures.stays

pub returns-clause-armed : goal.returns-clause-armed
returns-clause-armed g c =
    subst (λ s. IsArmed c.args.self.now c.args.name s c.arm_at.new.seat)
    c.hand.view_is c.arm_at.ensures.armed
