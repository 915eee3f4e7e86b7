use Rattle.std.proofs.Common.{sym, ap, ◌∙◌, subst}
use Rattle.table_steps.specs.Views.{IsHandOf, Stays}
use Rattle.table_steps.specs.Claims.{Claimed, Missed, IsAnswer}
use Rattle.table_steps.specs.Owing.{OwesNoneThere}
use Rattle.table_kept.proofs.Remembering.{IsLaid, place-here, none-of_block}
use Rattle.table_life_kept.proofs.RememberTold.{remembers-claimed}
use Rattle.op_table.proofs.Remembered.{alike-missed, remembers-still}
use Rattle.op_table.proofs.table.OpTable.claim.Goals as goal

pub claim_at-requires-clause-table : goal.claim_at-requires-clause-table
claim_at-requires-clause-table g c κs _ =
    subst (IsHandOf c.args.self.now) (sym c.hand.view_is) c.requires.table

pub insert-requires-clause-place : goal.insert-requires-clause-place
insert-requires-clause-place g c =
    place-here c.hand.invariant.owed c.args.self.now
    (subst IsLaid c.self.view_is (record { words = c.self.invariant.2; slots = c.self.invariant.3 }))
    (ap (λ s. s.table_id) c.hand.view_is ∙ c.requires.table.table_is) c.root.result c.root.ensures.place

pub insert-requires-clause-generation : goal.insert-requires-clause-generation
insert-requires-clause-generation g c =
    none-of_block c.hand.inside.seat c.hand.inside.owed c.hand.invariant c.root.result
    (subst (OwesNoneThere c.hand.inside.seat.me.0) (sym c.root.ensures.name) c.in_ok-claimed.ensures.owed)

pub invariant_of-hand-2 : goal.invariant_of-hand-2
invariant_of-hand-2 g c =
    remembers-claimed g.row.P.Denot g.row.P-Entry.Denot c.args.self.now
    (record {
      seat = c.hand.inside.seat;
      set = c.hand.inside.owed;
      runs = c.hand.inside.runs;
      old = c.hand.invariant;
      new = c.claim_at.new.seat;
      after = c.insert.new.self;
      table = c.claim_at.ensures.stays.same.0;
      layout = c.insert.ensures.layout;
    })
    c.args.block c.in_ok-claimed.claimed c.root.result
    c.root.ensures.name c.in_ok-claimed.ensures.claimed
    (subst (OwesNoneThere c.hand.inside.seat.me.0) (sym c.root.ensures.name) c.in_ok-claimed.ensures.owed)
    c.insert.ensures.has

pub invariant_of-hand : goal.invariant_of-hand
invariant_of-hand g c =
    remembers-still c.hand.invariant c.claim_at.ensures.stays.same.0
    (alike-missed c.args.self.now c.args.block c.hand.inside.seat c.claim_at.new.seat
    c.in_err-claimed.ensures.claimed)

pub returns-clause-stays : goal.returns-clause-stays
returns-clause-stays g c =
    subst (λ s. Stays c.args.self.now s c.claim_at.new.seat) c.hand.view_is c.claim_at.ensures.stays

pub returns-clause-claimed : goal.returns-clause-claimed
returns-clause-claimed g c =
    subst (λ s. Claimed c.args.self.now c.args.block c.in_ok-claimed.claimed s c.claim_at.new.seat)
    c.hand.view_is c.in_ok-claimed.ensures.claimed

pub returns-in_err-claimed-clause-stays : goal.returns-in_err-claimed-clause-stays
returns-in_err-claimed-clause-stays g c =
    subst (λ s. Stays c.args.self.now s c.claim_at.new.seat) c.hand.view_is c.claim_at.ensures.stays

pub returns-in_err-claimed-clause-claimed : goal.returns-in_err-claimed-clause-claimed
returns-in_err-claimed-clause-claimed g c =
    let missed = subst (λ s. Missed c.args.self.now c.args.block s c.claim_at.new.seat)
    c.hand.view_is c.in_err-claimed.ensures.claimed in
    subst (λ answer. IsAnswer c.args.self.now c.args.block answer c.args.hand.now
    c.claim_at.new.seat)
    (sym c.from_residual.ensures) missed
