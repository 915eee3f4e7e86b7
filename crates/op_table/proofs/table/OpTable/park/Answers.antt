use Rattle.std.proofs.Common.{sym, ap, subst}
use Rattle.life_rules.specs.declared.event.Resting.TheVariants.{Parked}
use Rattle.table_steps.specs.Views.{IsHandOf, Stays}
use Rattle.table_steps.specs.Rests.{CanRest}
use Rattle.table_steps.specs.Steps.{Rested}
use Rattle.op_table.proofs.Remembered.{remembers-still}
use Rattle.op_table.proofs.table.OpTable.park.Goals as goal

pub rest_at-requires-clause-table : goal.rest_at-requires-clause-table
rest_at-requires-clause-table g c κs _ =
    subst (IsHandOf c.args.self.now) (sym c.hand.view_is) c.requires.table

pub rest_at-requires-clause-needs : goal.rest_at-requires-clause-needs
rest_at-requires-clause-needs g c κs _ =
    subst (λ s. CanRest g.P.Cargo c.args.self.now.frame s.me c.args.name)
    (sym c.hand.view_is) c.requires.needs

pub invariant_of-hand : goal.invariant_of-hand
invariant_of-hand g c =
    let is = c.rest_at.ensures.rests.did.me_is in
    remembers-still c.hand.invariant c.rest_at.ensures.stays.same.0
    (ap (λ m. m.0.owed) is, ap (λ m. m.0.runs) is)

pub returns-clause-stays : goal.returns-clause-stays
returns-clause-stays g c =
    subst (λ s. Stays c.args.self.now s c.rest_at.new.seat) c.hand.view_is c.rest_at.ensures.stays

pub returns-clause-rests : goal.returns-clause-rests
returns-clause-rests g c =
    subst (λ s. Rested c.args.self.now c.args.name s c.rest_at.new.seat Parked)
    c.hand.view_is c.rest_at.ensures.rests
