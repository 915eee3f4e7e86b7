use Rattle.std.proofs.Common.{refl, sym, subst}
use Rattle.table_steps.specs.Views.{IsHandOf, Stays, knows}
use Rattle.table_steps.specs.ScopeMoves.{IsMaking, IsMade}
use Rattle.op_table.proofs.Remembered.{remembers-moved}
use Rattle.op_table.proofs.table.OpTable.mark_used_step.Goals as goal

pub mark_used_at-requires-clause-table : goal.mark_used_at-requires-clause-table
mark_used_at-requires-clause-table g c κs _ =
    subst (IsHandOf c.args.self.now) (sym c.hand.view_is) c.requires.table

pub mark_used_at-requires-clause-making : goal.mark_used_at-requires-clause-making
mark_used_at-requires-clause-making g c κs _ =
    subst (λ s. IsMaking (knows s)) (sym c.hand.view_is) c.requires.making

pub invariant_of-hand : goal.invariant_of-hand
invariant_of-hand g c =
    remembers-moved c.hand.invariant c.mark_used_at.ensures.stays c.mark_used_at.ensures.made.1
    (refl, refl)

pub returns-clause-stays : goal.returns-clause-stays
returns-clause-stays g c =
    subst (λ s. Stays c.args.self.now s c.mark_used_at.new.seat)
    c.hand.view_is c.mark_used_at.ensures.stays

pub returns-clause-made : goal.returns-clause-made
returns-clause-made g c =
    subst (λ s. IsMade s c.mark_used_at.new.seat) c.hand.view_is c.mark_used_at.ensures.made
