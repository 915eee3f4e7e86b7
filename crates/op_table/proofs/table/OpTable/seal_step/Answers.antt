use Rattle.std.proofs.Common.{sym, ap, subst}
use Rattle.table_steps.specs.Views.{IsHandOf, Stays}
use Rattle.table_steps.specs.ScopeMoves.{IsSealedAs}
use Rattle.op_table.proofs.Remembered.{remembers-still}
use Rattle.op_table.proofs.table.OpTable.seal_step.Goals as goal

pub seal_at-requires-clause-table : goal.seal_at-requires-clause-table
seal_at-requires-clause-table g c κs _ =
    subst (IsHandOf c.args.self.now) (sym c.hand.view_is) c.requires.table

pub invariant_of-hand : goal.invariant_of-hand
invariant_of-hand g c =
    let is = c.seal_at.ensures.sealed.me_is in
    remembers-still c.hand.invariant c.seal_at.ensures.stays.same.0
    (ap (λ m. m.0.owed) is, ap (λ m. m.0.runs) is)

pub returns-clause-stays : goal.returns-clause-stays
returns-clause-stays g c =
    subst (λ s. Stays c.args.self.now s c.seal_at.new.seat) c.hand.view_is c.seal_at.ensures.stays

pub returns-clause-sealed : goal.returns-clause-sealed
returns-clause-sealed g c =
    subst (λ s. IsSealedAs c.args.expected c.seal_at.result s c.seal_at.new.seat)
    c.hand.view_is c.seal_at.ensures.sealed
