use Rattle.std.proofs.Common.{sym, ◌∙◌, subst}
use Rattle.table_steps.specs.Views.{aim_at, IsHandOf, Stays}
use Rattle.table_steps.specs.Begins.{CanBegin, Begins}
use Rattle.table_life_kept.proofs.Begin.Told.{can-renewed, has-renewed, begun-goes-on}
use Rattle.table_kept.proofs.Remembering.{has-owed}
use Rattle.table_life_kept.proofs.RememberTold.{remembers-begun}
use Rattle.op_table.proofs.table.OpTable.begin.Goals as goal

pub begin_at-requires-clause-needs : goal.begin_at-requires-clause-needs
begin_at-requires-clause-needs g c =
    λ κs _. can-renewed g.P.Cargo c.args.self.now.frame c.args.name c.hand.inside.seat.me c.renew.new.seat.me
    c.renew.ensures.renewed
    (subst (λ s. CanBegin g.P.Cargo c.args.self.now.frame s.me c.args.name) (sym c.hand.view_is) c.requires.needs)

pub begin_at-requires-clause-renewed : goal.begin_at-requires-clause-renewed
begin_at-requires-clause-renewed g c =
    λ κs _. has-renewed g.P.Cargo (aim_at c.args.self.now c.args.name) c.hand.inside.seat.me c.renew.new.seat.me c.renew.ensures.renewed

pub remove-requires : goal.remove-requires
remove-requires g c =
    let can = subst (λ s. CanBegin g.P.Cargo c.args.self.now.frame s.me c.args.name) (sym c.hand.view_is) c.requires.needs in
    record {
      has = has-owed c.hand.inside.seat c.hand.inside.owed c.hand.invariant c.args.name (record { owed = can.owed; owes = can.owes });
    }

pub invariant_of-hand : goal.invariant_of-hand
invariant_of-hand g c =
    let can = subst (λ s. CanBegin g.P.Cargo c.args.self.now.frame s.me c.args.name) (sym c.hand.view_is) c.requires.needs in
    remembers-begun g.row.P.Denot g.row.P-Entry.Denot c.args.self.now
    (record {
      seat = c.hand.inside.seat;
      set = c.hand.inside.owed;
      runs = c.hand.inside.runs;
      old = c.hand.invariant;
      new = c.begin_at.new.seat;
      after = c.remove.new.self;
      table = c.begin_at.ensures.stays.same.0 ∙ c.renew.ensures.stays.same.0;
      layout = c.remove.ensures.layout;
    })
    g.P.Cargo _ _ _ c.args.name c.renew.new.seat.me
    (has-owed c.hand.inside.seat c.hand.inside.owed c.hand.invariant c.args.name (record { owed = can.owed; owes = can.owes }))
    c.renew.ensures.renewed c.begin_at.ensures.begun.did c.remove.ensures.has

pub returns-clause-begun : goal.returns-clause-begun
returns-clause-begun g c =
    let can = subst (λ s. CanBegin g.P.Cargo c.args.self.now.frame s.me c.args.name) (sym c.hand.view_is) c.requires.needs in
    subst (λ s. Begins g.P.Cargo (aim_at c.args.self.now c.args.name) s.me c.begin_at.new.seat.me) c.hand.view_is
    (record {
      middle = c.renew.new.seat.me;
      renewed = c.renew.ensures.renewed;
      began = c.begin_at.ensures.begun;
      goes_on = begun-goes-on g.P.Cargo c.args.self.now.frame _ _ _ c.args.name c.hand.inside.seat.me c.renew.new.seat.me
          c.begin_at.new.seat.me can c.renew.ensures.renewed c.begin_at.ensures.begun.did c.begin_at.ensures.stays.hand.seated;
    })

pub renew-requires-clause-table : goal.renew-requires-clause-table
renew-requires-clause-table g c =
    λ κs _. subst (IsHandOf c.args.self.now) (sym c.hand.view_is) c.requires.table

pub renew-requires-clause-needs : goal.renew-requires-clause-needs
renew-requires-clause-needs g c =
    λ κs _. subst (λ s. CanBegin g.P.Cargo c.args.self.now.frame s.me c.args.name)
    (sym c.hand.view_is) c.requires.needs

pub returns-clause-stays : goal.returns-clause-stays
returns-clause-stays g c =
    let last = c.begin_at.ensures.stays in
    let first = c.renew.ensures.stays in
    subst (λ s. Stays c.args.self.now s c.begin_at.new.seat) c.hand.view_is
    (record {
      same = (last.same.0 ∙ first.same.0, last.same.1 ∙ first.same.1);
      hand = last.hand;
    })
