use Rattle.std.proofs.Common.{arith, sym, ap, ◌∙◌, subst}
use Rattle.life_rules.specs.declared.words.CallbackPhase.TheVariants.{Running}
use Rattle.table_words.specs.Layouts.{OfCallback, index}
use Rattle.table_steps.specs.Slots.{Aim, IsSeated}
use Rattle.table_steps.specs.Claims.{with_step}
use Rattle.table_steps.specs.Lefts.{FoundCallback}
use Rattle.table_steps.specs.RunEnds.{removes_own}
use Rattle.table_hands_kept.proofs.Hands.{hand-seated}
use Rattle.table_stop_kept.proofs.EndRun.Allowed.{removes-at, removed-seated}
use Rattle.op_table.proofs.table.OpTable.withdraw_own_at.Goals as goal

pub store-requires-clause-table : goal.store-requires-clause-table
store-requires-clause-table g c =
    c.requires.table.table_is ∙ sym (ap (λ b. b.table_id) c.self.view_is)

pub store-requires-clause-within : goal.store-requires-clause-within
store-requires-clause-within g c =
    let counts = c.self.invariant.2 in
    let within = c.callback-index.ensures.within in
    omega (arith, counts, within)

pub store-requires-clause-allows : goal.store-requires-clause-allows
store-requires-clause-allows g c =
    removes-at g.P.Cargo c.args.self.now.frame c.self.inside.table.key _ c.args.seat.now.id
    c.callback-index.result c.callback_number-removed.result c.args.name g.K.Subject.aim c.args.seat.now.me
    (sym (ap (λ b. b.frame) c.self.view_is) ∙ sym c.self.invariant.0)
    (c.callback-index.ensures.value ∙ ap (λ b. index b.frame.layout (OfCallback c.args.name.block c.args.name.node)) c.self.view_is)
    c.requires.subject c.requires.needs
    c.callback_number-removed.ensures.stamp c.callback_number-removed.ensures.phase c.requires.table.seated.itself

pub returns-clause-stays : goal.returns-clause-stays
returns-clause-stays g c =
    let b = c.args.self.now in
    hand-seated b c.args.seat.now c.store.new.hand c.requires.table (c.store.ensures.0, c.store.ensures.1)
    (subst (IsSeated b.frame.tree b.frame.layout) (sym c.store.ensures.2.1.rest.me_is)
    (removed-seated b.frame.tree b.frame.layout c.callback-index.result c.store.ensures.2.0 c.callback_number-removed.result g.K.Subject.aim.tree g.K.Subject.aim.name
    c.args.seat.now.me c.requires.table.seated))

pub returns-clause-withdrawn : goal.returns-clause-withdrawn
returns-clause-withdrawn g c =
    let m = c.args.seat.now.me in
    record {
      read = c.store.ensures.2.0;
      left = c.callback_number-removed.result;
      found = subst (λ (a : Aim). FoundCallback a.name Running c.store.ensures.2.0) c.requires.subject c.store.ensures.2.1.rest.found;
      says = record { stamp_is = c.callback_number-removed.ensures.stamp; reads = c.callback_number-removed.ensures.phase };
      me_is = c.store.ensures.2.1.rest.me_is
          ∙ ap (λ (a : Aim). (with_step c.callback-index.result c.store.ensures.2.0 c.callback_number-removed.result (removes_own a.tree a.name m.0), m.1)) c.requires.subject
          ∙ ap (λ i. (with_step i c.store.ensures.2.0 c.callback_number-removed.result (removes_own c.args.self.now.frame.tree c.args.name m.0), m.1))
          (c.callback-index.ensures.value ∙ ap (λ b. index b.frame.layout (OfCallback c.args.name.block c.args.name.node)) c.self.view_is);
    }
