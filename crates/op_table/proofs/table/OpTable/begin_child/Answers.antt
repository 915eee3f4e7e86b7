use Rattle.std.proofs.Common.{◌≡◌, length, refl, sym, ◌∙◌, subst}
use Rattle.life_rules.specs.Views.{beside}
use Rattle.table_steps.specs.Views.{aim_at, IsHandOf, Stays}
use Rattle.table_life_kept.proofs.Begin.Told.{can-renewed, has-renewed, begun-goes-on}
use Rattle.op_table.specs.OnlyChild.{CanBeginChild, BeginsChild}
use Rattle.op_table.proofs.OnlyChild.{child-place, still-empty, then-begins, remembers-child}
use Rattle.op_table.proofs.table.OpTable.begin_child.Goals as goal

pub await_at-requires-clause-needs : goal.await_at-requires-clause-needs
await_at-requires-clause-needs g c = λ κs _.
    (subst (λ s. CanBeginChild g.P.Cargo c.args.self.now.frame c.args.name c.args.child c.args.item s.me) (sym c.hand.view_is) c.requires.needs).await

pub fill_at-requires-clause-place : goal.fill_at-requires-clause-place
fill_at-requires-clause-place g c = λ κs _.
    child-place g.P.Cargo c.args.self.now c.args.name c.args.child c.args.item c.args.hand.now.me c.requires.needs
    (subst (λ z. z.frame.layout.nodes ≡ length z.frame.tree) c.self.view_is c.self.invariant.1.nodes) c.requires.place

pub renew-requires-clause-place : goal.renew-requires-clause-place
renew-requires-clause-place g c = λ κs _.
    child-place g.P.Cargo c.args.self.now c.args.name c.args.child c.args.item c.args.hand.now.me c.requires.needs
    (subst (λ z. z.frame.layout.nodes ≡ length z.frame.tree) c.self.view_is c.self.invariant.1.nodes) c.requires.place

pub begin_at-requires-clause-place : goal.begin_at-requires-clause-place
begin_at-requires-clause-place g c = λ κs _.
    child-place g.P.Cargo c.args.self.now c.args.name c.args.child c.args.item c.args.hand.now.me c.requires.needs
    (subst (λ z. z.frame.layout.nodes ≡ length z.frame.tree) c.self.view_is c.self.invariant.1.nodes) c.requires.place

pub fill_at-requires-clause-empty : goal.fill_at-requires-clause-empty
fill_at-requires-clause-empty g c = λ κs _.
    let can = subst (λ s. CanBeginChild g.P.Cargo c.args.self.now.frame c.args.name c.args.child c.args.item s.me) (sym c.hand.view_is) c.requires.needs in
    still-empty g.P.Cargo c.args.self.now.frame c.args.name c.args.child c.args.item c.hand.inside.seat.me can _ _ _
    c.await_at.new.seat.me c.await_at.ensures.awaits.did

pub renew-requires-clause-needs : goal.renew-requires-clause-needs
renew-requires-clause-needs g c = λ κs _.
    let can = subst (λ s. CanBeginChild g.P.Cargo c.args.self.now.frame c.args.name c.args.child c.args.item s.me) (sym c.hand.view_is) c.requires.needs in
    then-begins g.P.Cargo c.args.self.now.frame c.args.name c.args.child c.args.item c.hand.inside.seat.me can _ _ _
    c.await_at.new.seat.me c.await_at.ensures.awaits.did c.fill_at.new.seat.me c.fill_at.ensures.filled

pub begin_at-requires-clause-needs : goal.begin_at-requires-clause-needs
begin_at-requires-clause-needs g c = λ κs _.
    let can = subst (λ s. CanBeginChild g.P.Cargo c.args.self.now.frame c.args.name c.args.child c.args.item s.me) (sym c.hand.view_is) c.requires.needs in
    can-renewed g.P.Cargo c.args.self.now.frame (beside c.args.name c.args.child) c.fill_at.new.seat.me c.renew.new.seat.me c.renew.ensures.renewed
    (then-begins g.P.Cargo c.args.self.now.frame c.args.name c.args.child c.args.item c.hand.inside.seat.me can _ _ _
    c.await_at.new.seat.me c.await_at.ensures.awaits.did c.fill_at.new.seat.me c.fill_at.ensures.filled)

pub begin_at-requires-clause-renewed : goal.begin_at-requires-clause-renewed
begin_at-requires-clause-renewed g c = λ κs _.
    has-renewed g.P.Cargo (aim_at c.args.self.now (beside c.args.name c.args.child)) c.fill_at.new.seat.me c.renew.new.seat.me
    c.renew.ensures.renewed

pub invariant_of-hand : goal.invariant_of-hand
invariant_of-hand g c =
    let can = subst (λ s. CanBeginChild g.P.Cargo c.args.self.now.frame c.args.name c.args.child c.args.item s.me) (sym c.hand.view_is) c.requires.needs in
    remembers-child g.P.Cargo c.args.self.now.frame c.args.name c.args.child c.args.item c.hand.inside.seat.me can _ _ _
    c.await_at.new.seat.me c.await_at.ensures.awaits.did c.fill_at.new.seat.me c.renew.new.seat.me c.begin_at.new.seat _ _ _
    c.fill_at.ensures.filled c.renew.ensures.renewed c.begin_at.ensures.begun.did c.hand.inside.seat refl
    (c.begin_at.ensures.stays.same.0 ∙ c.renew.ensures.stays.same.0 ∙ c.fill_at.ensures.stays.same.0 ∙ c.await_at.ensures.stays.same.0)
    c.hand.inside.owed c.hand.inside.runs c.hand.invariant

pub returns-clause-begins : goal.returns-clause-begins
returns-clause-begins g c =
    let can = subst (λ s. CanBeginChild g.P.Cargo c.args.self.now.frame c.args.name c.args.child c.args.item s.me) (sym c.hand.view_is) c.requires.needs in
    let begins = then-begins g.P.Cargo c.args.self.now.frame c.args.name c.args.child c.args.item c.hand.inside.seat.me can _ _ _
    c.await_at.new.seat.me c.await_at.ensures.awaits.did c.fill_at.new.seat.me c.fill_at.ensures.filled in
    subst (λ s. BeginsChild g.P.Cargo c.args.self.now.frame c.args.name c.args.child c.args.item s.me c.begin_at.new.seat.me) c.hand.view_is
    (record {
      waiting = c.await_at.new.seat.me;
      awaits = c.await_at.ensures.awaits;
      full = c.fill_at.new.seat.me;
      put = c.fill_at.ensures.filled;
      begins = record {
        middle = c.renew.new.seat.me;
        renewed = c.renew.ensures.renewed;
        began = c.begin_at.ensures.begun;
        goes_on = begun-goes-on g.P.Cargo c.args.self.now.frame _ _ _ (beside c.args.name c.args.child) c.fill_at.new.seat.me
            c.renew.new.seat.me c.begin_at.new.seat.me begins c.renew.ensures.renewed c.begin_at.ensures.begun.did
            c.begin_at.ensures.stays.hand.seated;
      };
    })

pub await_at-requires-clause-table : goal.await_at-requires-clause-table
await_at-requires-clause-table g c =
    λ κs _. subst (IsHandOf c.args.self.now) (sym c.hand.view_is) c.requires.table

pub returns-clause-stays : goal.returns-clause-stays
returns-clause-stays g c =
    let begun = c.begin_at.ensures.stays in
    let renewed = c.renew.ensures.stays.same in
    let filled = c.fill_at.ensures.stays.same in
    let waiting = c.await_at.ensures.stays.same in
    subst (λ s. Stays c.args.self.now s c.begin_at.new.seat) c.hand.view_is
    (record {
      same = (
        begun.same.0 ∙ renewed.0 ∙ filled.0 ∙ waiting.0,
        begun.same.1 ∙ renewed.1 ∙ filled.1 ∙ waiting.1,
      );
      hand = begun.hand;
    })
