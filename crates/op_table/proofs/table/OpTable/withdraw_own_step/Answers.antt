use Rattle.std.proofs.Common.{sym, ap, subst}
use Rattle.table_steps.specs.RunEnds.{CanWithdrawOwn, IsOwnWithdrawn}
use Rattle.table_steps.specs.Views.{IsHandOf, Stays}
use Rattle.table_stop_kept.proofs.Run.Remembered.{has-run, remembers-ended}
use Rattle.op_table.proofs.table.OpTable.withdraw_own_step.Goals as goal

pub remove-requires : goal.remove-requires
remove-requires g c =
    let can = subst (λ s. CanWithdrawOwn s.me.0 c.args.name) (sym c.hand.view_is) c.requires.needs in
    record { has = has-run c.hand.inside.seat c.hand.inside.owed c.hand.inside.runs c.hand.invariant c.args.name can.run.runs }

pub invariant_of-hand : goal.invariant_of-hand
invariant_of-hand g c =
    let can = subst (λ s. CanWithdrawOwn s.me.0 c.args.name) (sym c.hand.view_is) c.requires.needs in
    let left = c.withdraw_own_at.ensures.withdrawn.me_is in
    remembers-ended c.hand.inside.seat c.hand.inside.owed c.hand.inside.runs c.hand.invariant c.withdraw_own_at.new.seat
    c.remove.new.self c.withdraw_own_at.ensures.stays.same.0 c.remove.ensures.layout (ap (λ m. m.0.owed) left) c.args.name can.run.runs
    (ap (λ m. m.0.runs) left) c.remove.ensures.has

pub withdraw_own_at-requires-clause-table : goal.withdraw_own_at-requires-clause-table
withdraw_own_at-requires-clause-table g c κs _ =
    subst (IsHandOf c.args.self.now) (sym c.hand.view_is) c.requires.table

pub withdraw_own_at-requires-clause-needs : goal.withdraw_own_at-requires-clause-needs
withdraw_own_at-requires-clause-needs g c κs _ =
    subst (λ s. CanWithdrawOwn s.me.0 c.args.name) (sym c.hand.view_is) c.requires.needs

pub returns-clause-stays : goal.returns-clause-stays
returns-clause-stays g c =
    subst (λ s. Stays c.args.self.now s c.withdraw_own_at.new.seat) c.hand.view_is c.withdraw_own_at.ensures.stays

pub returns-clause-withdrawn : goal.returns-clause-withdrawn
returns-clause-withdrawn g c =
    subst (λ s. IsOwnWithdrawn c.args.self.now c.args.name s c.withdraw_own_at.new.seat) c.hand.view_is
    c.withdraw_own_at.ensures.withdrawn
