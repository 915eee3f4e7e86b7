use Rattle.std.proofs.Common.{refl, sym, subst}
use Rattle.table_steps.specs.Views.{IsHandOf, Stays}
use Rattle.table_steps.specs.ScopeSets.{joining, SetsScope}
use Rattle.op_table.proofs.Remembered.{remembers-moved}
use Rattle.op_table.proofs.table.OpTable.join_step.Goals as goal

pub join_at-requires-clause-table : goal.join_at-requires-clause-table
join_at-requires-clause-table g c κs _ =
    subst (IsHandOf c.args.self.now) (sym c.hand.view_is) c.requires.table

pub invariant_of-hand : goal.invariant_of-hand
invariant_of-hand g c =
    remembers-moved c.hand.invariant c.join_at.ensures.stays c.join_at.ensures.joins
    (refl, refl)

pub returns-clause-stays : goal.returns-clause-stays
returns-clause-stays g c =
    subst (λ s. Stays c.args.self.now s c.join_at.new.seat) c.hand.view_is c.join_at.ensures.stays

pub returns-clause-joins : goal.returns-clause-joins
returns-clause-joins g c =
    subst (λ s. SetsScope joining c.join_at.result s c.join_at.new.seat)
    c.hand.view_is c.join_at.ensures.joins
