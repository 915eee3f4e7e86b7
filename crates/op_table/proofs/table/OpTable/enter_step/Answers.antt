use Rattle.std.proofs.Common.{sym, subst}
use Rattle.table_steps.specs.Views.{IsHandOf, Stays, knows}
use Rattle.table_steps.specs.ScopeEntries.{MayEnter, IsEntered}
use Rattle.op_table.proofs.Remembered.{alike-entered, remembers-moved}
use Rattle.op_table.proofs.table.OpTable.enter_step.Goals as goal

pub enter_at-requires-clause-table : goal.enter_at-requires-clause-table
enter_at-requires-clause-table g c κs _ =
    subst (IsHandOf c.args.self.now) (sym c.hand.view_is) c.requires.table

pub enter_at-requires-clause-enters : goal.enter_at-requires-clause-enters
enter_at-requires-clause-enters g c κs _ =
    subst (λ s. MayEnter (knows s)) (sym c.hand.view_is) c.requires.enters

pub invariant_of-hand : goal.invariant_of-hand
invariant_of-hand g c =
    remembers-moved c.hand.invariant c.enter_at.ensures.stays c.enter_at.ensures.entered
    (alike-entered c.args.self.now.frame.most c.enter_at.result c.hand.inside.seat.me.0)

pub returns-clause-stays : goal.returns-clause-stays
returns-clause-stays g c =
    subst (λ s. Stays c.args.self.now s c.enter_at.new.seat) c.hand.view_is c.enter_at.ensures.stays

pub returns-clause-entered : goal.returns-clause-entered
returns-clause-entered g c =
    subst (λ s. IsEntered c.args.self.now c.enter_at.result s c.enter_at.new.seat)
    c.hand.view_is c.enter_at.ensures.entered
