use Rattle.std.proofs.Common.{refl, sym, subst}
use Rattle.table_steps.specs.Views.{IsHandOf, Stays}
use Rattle.table_steps.specs.ScopeSets.{closing, SetsScope}
use Rattle.op_table.proofs.Remembered.{remembers-moved}
use Rattle.op_table.proofs.table.OpTable.close_step.Goals as goal

pub close_at-requires-clause-table : goal.close_at-requires-clause-table
close_at-requires-clause-table g c κs _ =
    subst (IsHandOf c.args.self.now) (sym c.hand.view_is) c.requires.table

pub invariant_of-hand : goal.invariant_of-hand
invariant_of-hand g c =
    remembers-moved c.hand.invariant c.close_at.ensures.stays c.close_at.ensures.closed
    (refl, refl)

pub returns-clause-stays : goal.returns-clause-stays
returns-clause-stays g c =
    subst (λ s. Stays c.args.self.now s c.close_at.new.seat) c.hand.view_is c.close_at.ensures.stays

pub returns-clause-closed : goal.returns-clause-closed
returns-clause-closed g c =
    subst (λ s. SetsScope closing c.close_at.result s c.close_at.new.seat)
    c.hand.view_is c.close_at.ensures.closed
