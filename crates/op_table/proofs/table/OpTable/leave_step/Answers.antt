use Rattle.std.proofs.Common.{sym, subst}
use Rattle.table_steps.specs.Views.{IsHandOf, Stays, knows}
use Rattle.table_steps.specs.ScopeMoves.{MayLeaveScope, MovesScope, leaves_scope, with_one_less}
use Rattle.op_table.proofs.Remembered.{alike-left, remembers-moved}
use Rattle.op_table.proofs.table.OpTable.leave_step.Goals as goal

pub leave_at-requires-clause-table : goal.leave_at-requires-clause-table
leave_at-requires-clause-table g c κs _ =
    subst (IsHandOf c.args.self.now) (sym c.hand.view_is) c.requires.table

pub leave_at-requires-clause-leaves : goal.leave_at-requires-clause-leaves
leave_at-requires-clause-leaves g c κs _ =
    subst (λ s. MayLeaveScope (knows s)) (sym c.hand.view_is) c.requires.leaves

pub invariant_of-hand : goal.invariant_of-hand
invariant_of-hand g c =
    remembers-moved c.hand.invariant c.leave_at.ensures.stays c.leave_at.ensures.left
    (alike-left c.hand.inside.seat.me.0)

pub returns-clause-stays : goal.returns-clause-stays
returns-clause-stays g c =
    subst (λ s. Stays c.args.self.now s c.leave_at.new.seat) c.hand.view_is c.leave_at.ensures.stays

pub returns-clause-left : goal.returns-clause-left
returns-clause-left g c =
    subst (λ s. MovesScope with_one_less leaves_scope c.leave_at.result s c.leave_at.new.seat)
    c.hand.view_is c.leave_at.ensures.left
