use Rattle.std.proofs.Common.{sym, ap, subst}
use Rattle.table_steps.specs.Views.{IsHandOf, Stays}
use Rattle.table_steps.specs.ScopeMoves.{ReadsScope}
use Rattle.op_table.proofs.Remembered.{remembers-still}
use Rattle.op_table.proofs.table.OpTable.scope_step.Goals as goal

pub scope_at-requires-clause-table : goal.scope_at-requires-clause-table
scope_at-requires-clause-table g c κs _ =
    subst (IsHandOf c.args.self.now) (sym c.hand.view_is) c.requires.table

pub invariant_of-hand : goal.invariant_of-hand
invariant_of-hand g c =
    let is = c.scope_at.ensures.read.me_is in
    remembers-still c.hand.invariant c.scope_at.ensures.stays.same.0
    (ap (λ m. m.0.owed) is, ap (λ m. m.0.runs) is)

pub returns-clause-stays : goal.returns-clause-stays
returns-clause-stays g c =
    subst (λ s. Stays c.args.self.now s c.scope_at.new.seat) c.hand.view_is c.scope_at.ensures.stays

pub returns-clause-read : goal.returns-clause-read
returns-clause-read g c =
    subst (λ s. ReadsScope c.scope_at.result s c.scope_at.new.seat)
    c.hand.view_is c.scope_at.ensures.read
