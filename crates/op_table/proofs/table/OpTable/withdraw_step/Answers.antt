use Rattle.std.proofs.Common.{sym, ap, ◌∙◌, subst}
use Rattle.table_steps.specs.Views.{IsHandOf, Stays, knows}
use Rattle.table_steps.specs.Callbacks.{CanWithdraw, IsWithdrawn}
use Rattle.op_table.proofs.Remembered.{alike-withdrawn, remembers-still}
use Rattle.op_table.proofs.table.OpTable.withdraw_step.Goals as goal

pub withdraw_at-requires-clause-table : goal.withdraw_at-requires-clause-table
withdraw_at-requires-clause-table g c κs _ =
    subst (IsHandOf c.args.self.now) (sym c.hand.view_is) c.requires.table

pub withdraw_at-requires-clause-needs : goal.withdraw_at-requires-clause-needs
withdraw_at-requires-clause-needs g c κs _ =
    subst (λ s. CanWithdraw (knows s) c.args.name) (sym c.hand.view_is) c.requires.needs

pub invariant_of-hand : goal.invariant_of-hand
invariant_of-hand g c =
    let is = c.withdraw_at.ensures.withdrawn.me_is in
    let same = alike-withdrawn c.args.self.now.frame.tree c.args.name c.withdraw_at.result
    c.hand.inside.seat.me.0 in
    remembers-still c.hand.invariant c.withdraw_at.ensures.stays.same.0
    (ap (λ m. m.0.owed) is ∙ same.0, ap (λ m. m.0.runs) is ∙ same.1)

pub returns-clause-stays : goal.returns-clause-stays
returns-clause-stays g c =
    subst (λ s. Stays c.args.self.now s c.withdraw_at.new.seat)
    c.hand.view_is c.withdraw_at.ensures.stays

pub returns-clause-withdrawn : goal.returns-clause-withdrawn
returns-clause-withdrawn g c =
    subst (λ s. IsWithdrawn c.args.self.now c.args.name c.withdraw_at.result s
    c.withdraw_at.new.seat)
    c.hand.view_is c.withdraw_at.ensures.withdrawn
