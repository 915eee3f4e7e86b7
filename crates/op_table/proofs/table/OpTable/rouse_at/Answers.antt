use Rattle.std.proofs.Common.{arith, ◌==◌, sym, ap, ◌∙◌, subst}
use prog.Atomic.{either}
use Rattle.life_rules.specs.declared.words.ControlWord.TheVariants.{ReadyLoop}
use Rattle.table_words.specs.Layouts.{OfControl, index}
use Rattle.table_steps.specs.Claims.{with_step}
use Rattle.table_steps.specs.Lefts.{SaysControl}
use Rattle.table_hands_kept.proofs.Hands.{hand-listed}
use Rattle.table_life_kept.proofs.Rouse.Allowed.{rouses-at}
use Rattle.op_table.proofs.table.OpTable.rouse_at.Goals as goal

pub compare_exchange-was-requires-clause-table : goal.compare_exchange-was-requires-clause-table
compare_exchange-was-requires-clause-table g c =
    c.requires.table.table_is ∙ sym (ap (λ b. b.table_id) c.self.view_is)

pub compare_exchange-was-requires-clause-within : goal.compare_exchange-was-requires-clause-within
compare_exchange-was-requires-clause-within g c =
    let counts = c.self.invariant.2 in
    let within = c.control-index.ensures.within in
    omega (arith, counts, within)

pub compare_exchange-was-requires-clause-allows : goal.compare_exchange-was-requires-clause-allows
compare_exchange-was-requires-clause-allows g c =
    rouses-at g.P.Cargo c.args.self.now.frame c.self.inside.table.key _ c.args.seat.now.id
    c.control-index.result c.control_number-parked.result c.control_number-ready.result c.args.name c.args.seat.now.me
    (sym (ap (λ b. b.frame) c.self.view_is) ∙ sym c.self.invariant.0)
    (c.control-index.ensures.value ∙ ap (λ b. index b.frame.layout (OfControl c.args.name.block c.args.name.node)) c.self.view_is)
    c.requires.place.block c.requires.place.node c.requires.rouses
    c.control_number-parked.ensures.stamp c.control_number-parked.ensures.control
    c.control_number-ready.ensures.stamp c.control_number-ready.ensures.control c.requires.table.seated.itself

pub returns-clause-stays : goal.returns-clause-stays
returns-clause-stays g c =
    hand-listed c.args.self.now c.args.seat.now c.compare_exchange-was.new.hand c.requires.table
    (c.compare_exchange-was.ensures.0, c.compare_exchange-was.ensures.1) c.control-index.result c.compare_exchange-was.result _ c.compare_exchange-was.ensures.2.rest

pub returns-clause-roused : goal.returns-clause-roused
returns-clause-roused g c =
    let was = c.compare_exchange-was.result in
    let parked = c.control_number-parked.result in
    let ready = c.control_number-ready.result in
    record {
      word = was;
      left = either (was == parked) ready was;
      answer_is = ap (λ n. was == n) c.control_number-parked.ensures.value;
      roused = λ yes.
          subst (SaysControl c.args.name ReadyLoop) (sym (ap (λ b. either b ready was) yes))
          (record { stamp_is = c.control_number-ready.ensures.stamp; reads = c.control_number-ready.ensures.control });
      stayed = λ no. ap (λ b. either b ready was) no;
      me_is = c.compare_exchange-was.ensures.2.rest
          ∙ ap (λ i. (with_step i was (either (was == parked) ready was) c.args.seat.now.me.0, c.args.seat.now.me.1))
          (c.control-index.ensures.value ∙ ap (λ b. index b.frame.layout (OfControl c.args.name.block c.args.name.node)) c.self.view_is);
    }
