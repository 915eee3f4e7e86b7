use Rattle.std.proofs.Common.{◌≢◌, arith, sym, ap, ◌∙◌, subst}
use Rattle.life_rules.specs.declared.words.CallbackPhase.TheVariants.{Running}
use Rattle.table_words.specs.Layouts.{OfCallback, index}
use Rattle.table_steps.specs.Slots.{Aim, IsSeated}
use Rattle.table_steps.specs.Claims.{with_step}
use Rattle.table_steps.specs.Readings.{says_phase}
use Rattle.table_steps.specs.Hearings.{UnderScope}
use Rattle.table_steps.specs.Callbacks.{is_registered, withdraws, left_by}
use Rattle.table_hands_kept.proofs.Hands.{hand-seated}
use Rattle.table_stop_kept.proofs.Withdraw.Allowed.{withdraws-at, withdrawn-seated}
use Rattle.op_table.proofs.table.OpTable.withdraw_at.Goals as goal

pub compare_exchange-was-requires-clause-table : goal.compare_exchange-was-requires-clause-table
compare_exchange-was-requires-clause-table g c =
    c.requires.table.table_is ∙ sym (ap (λ b. b.table_id) c.self.view_is)

pub compare_exchange-was-requires-clause-within : goal.compare_exchange-was-requires-clause-within
compare_exchange-was-requires-clause-within g c =
    let counts = c.self.invariant.2 in
    let within = c.callback-index.ensures.within in
    omega (arith, counts, within)

pub compare_exchange-was-requires-clause-allows : goal.compare_exchange-was-requires-clause-allows
compare_exchange-was-requires-clause-allows g c =
    withdraws-at g.P.Cargo c.args.self.now.frame c.self.inside.table.key _ c.args.seat.now.id
    c.callback-index.result c.callback_number-armed.result c.callback_number-removed.result c.args.name g.K.Subject.aim c.args.seat.now.me
    (sym (ap (λ b. b.frame) c.self.view_is) ∙ sym c.self.invariant.0)
    (c.callback-index.ensures.value ∙ ap (λ b. index b.frame.layout (OfCallback c.args.name.block c.args.name.node)) c.self.view_is)
    c.requires.subject c.requires.needs c.callback_number-armed.ensures.value
    c.callback_number-armed.ensures.stamp c.callback_number-armed.ensures.phase
    c.callback_number-removed.ensures.value
    c.callback_number-removed.ensures.stamp c.callback_number-removed.ensures.phase c.requires.table.seated.itself

pub returns-clause-stays : goal.returns-clause-stays
returns-clause-stays g c =
    let b = c.args.self.now in
    hand-seated b c.args.seat.now c.compare_exchange-was.new.hand c.requires.table (c.compare_exchange-was.ensures.0, c.compare_exchange-was.ensures.1)
    (subst (IsSeated b.frame.tree b.frame.layout) (sym c.compare_exchange-was.ensures.2.rest.0)
    (withdrawn-seated b.frame.tree b.frame.layout c.callback-index.result c.compare_exchange-was.result
    (left_by g.K.Subject.aim.name.generation c.compare_exchange-was.result) g.K.Subject.aim.tree g.K.Subject.aim.name
    (says_phase g.K.Subject.aim.name.generation c.compare_exchange-was.result) c.args.seat.now.me c.requires.table.seated))

pub returns-clause-withdrawn : goal.returns-clause-withdrawn
returns-clause-withdrawn g c =
    let word = c.compare_exchange-was.result in
    let m = c.args.seat.now.me in
    record {
      word = word;
      answer_is = c.says_phase.ensures;
      registered = ap is_registered (c.says_phase.ensures ∙ ap (λ (a : Aim). says_phase a.name.generation word) (sym c.requires.subject))
          ∙ c.compare_exchange-was.ensures.2.rest.1;
      scope = subst (λ p. UnderScope c.args.self.now.frame.tree m.0 c.args.name (p ≢ Running)) (sym c.says_phase.ensures)
          (subst (λ (a : Aim). UnderScope a.tree m.0 a.name (says_phase a.name.generation word ≢ Running)) c.requires.subject
          c.compare_exchange-was.ensures.2.rest.2);
      me_is = c.compare_exchange-was.ensures.2.rest.0
          ∙ ap (λ (a : Aim). (with_step c.callback-index.result word (left_by a.name.generation word) (withdraws a.tree a.name (says_phase a.name.generation word) m.0), m.1)) c.requires.subject
          ∙ ap (λ p. (with_step c.callback-index.result word (left_by c.args.name.generation word) (withdraws c.args.self.now.frame.tree c.args.name p m.0), m.1)) (sym c.says_phase.ensures)
          ∙ ap (λ i. (with_step i word (left_by c.args.name.generation word) (withdraws c.args.self.now.frame.tree c.args.name c.says_phase.result m.0), m.1))
          (c.callback-index.ensures.value ∙ ap (λ b. index b.frame.layout (OfCallback c.args.name.block c.args.name.node)) c.self.view_is);
    }
