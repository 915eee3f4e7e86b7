use Rattle.std.proofs.Common.{◌≡◌, length, sym, ap, ◌∙◌, subst}
use Rattle.table_steps.specs.Awaits.{CanAwait}
use Rattle.table_steps.specs.Steps.{Awaited}
use Rattle.table_steps.specs.Views.{IsHandOf, Stays}
use Rattle.table_kept.proofs.Remembering.{IsLaid, places-here, of-its_block}
use Rattle.table_life_kept.proofs.RememberTold.{remembers-awaited, named-places}
use Rattle.op_table.proofs.table.OpTable.await_children.Goals as goal

pub add_children-requires-clause-places : goal.add_children-requires-clause-places
add_children-requires-clause-places g c =
    let b = c.args.self.now in
    places-here c.hand.invariant.owed b
    (subst IsLaid c.self.view_is (record { words = c.self.invariant.2; slots = c.self.invariant.3 }))
    (ap (λ s. s.table_id) c.hand.view_is ∙ c.requires.table.table_is) c.args.name.block c.args.children.now
    (named-places g.P.Cargo b.frame c.args.hand.now.me c.args.name c.args.children.now
    (subst (λ z. z.frame.layout.nodes ≡ length z.frame.tree) c.self.view_is c.self.invariant.1.nodes)
    c.requires.place.block c.requires.needs)

pub add_children-requires-clause-generation : goal.add_children-requires-clause-generation
add_children-requires-clause-generation g c =
    of-its_block c.hand.inside.seat c.hand.inside.owed c.hand.invariant c.args.name c.await_at.ensures.awaits.did.beside_it

pub invariant_of-hand : goal.invariant_of-hand
invariant_of-hand g c =
    remembers-awaited g.row.P.Denot g.row.P-Entry.Denot c.args.self.now
    (record {
      seat = c.hand.inside.seat;
      set = c.hand.inside.owed;
      runs = c.hand.inside.runs;
      old = c.hand.invariant;
      new = c.await_at.new.seat;
      after = c.add_children.new.owed;
      table = c.await_at.ensures.stays.same.0;
      layout = c.add_children.ensures.layout;
    })
    g.P.Cargo _ _ _ c.args.name c.args.children.now
    (subst (λ s. CanAwait g.P.Cargo c.args.self.now.frame s.me c.args.name c.args.children.now) (sym c.hand.view_is) c.requires.needs)
    c.await_at.ensures.awaits.did c.add_children.ensures.added

pub await_at-requires-clause-table : goal.await_at-requires-clause-table
await_at-requires-clause-table g c κs _ =
    subst (IsHandOf c.args.self.now) (sym c.hand.view_is) c.requires.table

pub await_at-requires-clause-needs : goal.await_at-requires-clause-needs
await_at-requires-clause-needs g c κs _ =
    subst (λ s. CanAwait g.P.Cargo c.args.self.now.frame s.me c.args.name c.args.children.now)
    (sym c.hand.view_is) c.requires.needs

pub returns-clause-stays : goal.returns-clause-stays
returns-clause-stays g c =
    subst (λ s. Stays c.args.self.now s c.await_at.new.seat) c.hand.view_is c.await_at.ensures.stays

pub returns-clause-awaits : goal.returns-clause-awaits
returns-clause-awaits g c =
    subst (λ s. Awaited c.args.self.now c.args.name s c.await_at.new.seat g.P.Cargo
    c.args.children.now)
    c.hand.view_is c.await_at.ensures.awaits
