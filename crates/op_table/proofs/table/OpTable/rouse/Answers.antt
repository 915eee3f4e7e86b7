use Rattle.std.proofs.Common.{sym, ap, subst}
use Rattle.table_steps.specs.Views.{IsHandOf, Stays, knows}
use Rattle.table_steps.specs.Rouses.{MayRouse, IsRoused}
use Rattle.op_table.proofs.Remembered.{remembers-still}
use Rattle.op_table.proofs.table.OpTable.rouse.Goals as goal

pub rouse_at-requires-clause-table : goal.rouse_at-requires-clause-table
rouse_at-requires-clause-table g c κs _ =
    subst (IsHandOf c.args.self.now) (sym c.hand.view_is) c.requires.table

pub rouse_at-requires-clause-rouses : goal.rouse_at-requires-clause-rouses
rouse_at-requires-clause-rouses g c κs _ =
    subst (λ s. MayRouse (knows s) c.args.name) (sym c.hand.view_is) c.requires.rouses

pub invariant_of-hand : goal.invariant_of-hand
invariant_of-hand g c =
    let is = c.rouse_at.ensures.roused.me_is in
    remembers-still c.hand.invariant c.rouse_at.ensures.stays.same.0
    (ap (λ m. m.0.owed) is, ap (λ m. m.0.runs) is)

pub returns-clause-stays : goal.returns-clause-stays
returns-clause-stays g c =
    subst (λ s. Stays c.args.self.now s c.rouse_at.new.seat) c.hand.view_is c.rouse_at.ensures.stays

pub returns-clause-roused : goal.returns-clause-roused
returns-clause-roused g c =
    subst (λ s. IsRoused c.args.self.now c.args.name c.rouse_at.result s c.rouse_at.new.seat)
    c.hand.view_is c.rouse_at.ensures.roused
