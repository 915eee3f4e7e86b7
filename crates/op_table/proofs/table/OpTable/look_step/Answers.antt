use Rattle.std.proofs.Common.{sym, ap, subst}
use Rattle.table_steps.specs.Views.{IsHandOf, Stays, knows}
use Rattle.table_steps.specs.Sights.{MayLookAfter, IsLookedAt, StillAsked, AgreesWithTold}
use Rattle.op_table.proofs.Remembered.{remembers-still}
use Rattle.op_table.proofs.table.OpTable.look_step.Goals as goal

pub look_after-requires-clause-table : goal.look_after-requires-clause-table
look_after-requires-clause-table g c κs _ =
    subst (IsHandOf c.args.self.now) (sym c.hand.view_is) c.requires.table

pub look_after-requires-clause-after : goal.look_after-requires-clause-after
look_after-requires-clause-after g c κs _ =
    subst (λ s. MayLookAfter c.args.self.now.frame.tree (knows s) c.args.source c.args.after)
    (sym c.hand.view_is) c.requires.after

pub invariant_of-hand : goal.invariant_of-hand
invariant_of-hand g c =
    let is = c.look_after.ensures.looked.2 in
    remembers-still c.hand.invariant c.look_after.ensures.stays.same.0
    (ap (λ m. m.0.owed) is, ap (λ m. m.0.runs) is)

pub returns-clause-stays : goal.returns-clause-stays
returns-clause-stays g c =
    subst (λ s. Stays c.args.self.now s c.look_after.new.seat)
    c.hand.view_is c.look_after.ensures.stays

pub returns-clause-looked : goal.returns-clause-looked
returns-clause-looked g c =
    subst (λ s. IsLookedAt c.args.self.now c.args.source c.args.after c.look_after.result s
    c.look_after.new.seat)
    c.hand.view_is c.look_after.ensures.looked

pub returns-clause-stands : goal.returns-clause-stands
returns-clause-stands g c =
    subst (λ s. StillAsked (knows s) c.args.source c.look_after.result)
    c.hand.view_is c.look_after.ensures.stands

pub returns-clause-told : goal.returns-clause-told
returns-clause-told g c =
    subst (λ s. AgreesWithTold c.args.self.now.frame.tree (knows s) c.args.source
    c.look_after.result)
    c.hand.view_is c.look_after.ensures.told
