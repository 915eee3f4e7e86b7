use Rattle.std.proofs.Common.{arith, sym, ap, ◌∙◌, subst}
use Rattle.table_words.specs.Layouts.{OfCallback, index}
use Rattle.table_steps.specs.Slots.{IsSeated}
use Rattle.table_hands_kept.proofs.Hands.{hand-seated, hand-logged}
use Rattle.table_stop_kept.proofs.Run.Allowed.{runs-at, run-seated, met-seated}
use Rattle.table_stop_kept.proofs.Run.Told.{newest-logged, can-run-logged, met-armed, met-unarmed, won, lost, tried}
use Rattle.table_steps.specs.Runs.{node_named, run_index}
use Rattle.op_table.proofs.table.OpTable.+run_from.Goals as goal

pub compare_exchange-was-requires-clause-table : goal.compare_exchange-was-requires-clause-table
compare_exchange-was-requires-clause-table g t c =
    c.requires.table.table_is ∙ sym (ap (λ b. b.table_id) c.self.view_is)

pub compare_exchange-was-requires-clause-within : goal.compare_exchange-was-requires-clause-within
compare_exchange-was-requires-clause-within g t c =
    let counts = c.self.invariant.2 in
    let within = c.callback-index.ensures.within in
    omega (arith, counts, within)

pub compare_exchange-was-requires-clause-allows : goal.compare_exchange-was-requires-clause-allows
compare_exchange-was-requires-clause-allows g t c =
    runs-at g.P.Cargo c.args.self.now.frame c.self.inside.table.key (record {
      slots = _;
      id = c.args.seat.now.id;
      cell = c.callback-index.result;
      source = c.args.source;
      other_source = g.J.Regard.source;
      block = c.args.block;
      place = c.args.node;
      aim = g.K.Subject.aim;
      seated = c.args.seat.now.me;
      same = sym (ap (λ b. b.frame) c.self.view_is) ∙ sym c.self.invariant.0;
      i_is = c.callback-index.ensures.value ∙ ap (λ b. index b.frame.layout (OfCallback c.args.block c.args.node)) c.self.view_is;
      aim_is = c.requires.subject;
      t_is = c.requires.source_is;
      can = c.requires.needs;
      within = c.requires.block;
    })
    c.args.word c.callback_number-running.result c.requires.armed c.requires.newest
    (c.callback_number-running.ensures.stamp ∙ c.stamp-generation.ensures) c.callback_number-running.ensures.phase c.requires.table.seated.itself

pub run_from-requires-clause-table : goal.run_from-requires-clause-table
run_from-requires-clause-table g t c κs within = (
    hand-logged c.args.self.now c.args.seat.now c.compare_exchange-was.new.hand c.requires.table (c.compare_exchange-was.ensures.0, c.compare_exchange-was.ensures.1)
    (run_index c.args.self.now c.args.block c.args.node) c.compare_exchange-was.result
    (met-armed c.args.self.now c.args.source c.args.block c.args.node c.callback-index.result c.compare_exchange-was.result g.K.Subject.aim
    g.J.Regard.source c.args.seat.now.me c.compare_exchange-was.new.hand.me
    (c.callback-index.ensures.value ∙ ap (λ b. index b.frame.layout (OfCallback c.args.block c.args.node)) c.self.view_is)
    (sym c.says_armed.ensures ∙ c.if-says_armed.true) (c.compare_exchange-was.ensures.2.rest.1 c.if-was-word.false).0)
    ).hand

pub returns-then-was-word-clause-stays : goal.returns-then-was-word-clause-stays
returns-then-was-word-clause-stays g t c =
    let b = c.args.self.now in
    let aim = g.K.Subject.aim in
    hand-seated b c.args.seat.now c.compare_exchange-was.new.hand c.requires.table (c.compare_exchange-was.ensures.0, c.compare_exchange-was.ensures.1)
    (subst (IsSeated b.frame.tree b.frame.layout) (sym (c.compare_exchange-was.ensures.2.rest.0 c.if-was-word.true).0)
    (run-seated b.frame.tree b.frame.layout c.callback-index.result c.compare_exchange-was.result c.args.seat.now.me c.requires.table.seated
    c.callback_number-running.result (node_named aim.name.block aim.name.node c.compare_exchange-was.result)))

pub returns-then-was-word-clause-run : goal.returns-then-was-word-clause-run
returns-then-was-word-clause-run g t c =
    won c.args.self.now c.args.source c.args.block c.args.node c.args.seat.now c.compare_exchange-was.new.hand c.args.word
    c.stamp-generation.result c.callback-index.result c.compare_exchange-was.result c.callback_number-running.result g.K.Subject.aim g.J.Regard.source
    (c.callback-index.ensures.value ∙ ap (λ b. index b.frame.layout (OfCallback c.args.block c.args.node)) c.self.view_is)
    c.requires.subject c.requires.source_is c.stamp-generation.ensures c.if-was-word.true
    c.callback_number-running.ensures.stamp c.callback_number-running.ensures.phase
    (c.compare_exchange-was.ensures.2.rest.0 c.if-was-word.true)

pub returns-then-says_armed-clause-run : goal.returns-then-says_armed-clause-run
returns-then-says_armed-clause-run g t c =
    let armed = sym c.says_armed.ensures ∙ c.if-says_armed.true in
    let told = c.compare_exchange-was.ensures.2.rest.1 c.if-was-word.false in
    tried c.args.self.now c.args.source c.args.block c.args.node c.args.seat.now c.compare_exchange-was.new.hand c.run_from.new.seat
    c.compare_exchange-was.result armed
    (met-armed c.args.self.now c.args.source c.args.block c.args.node c.callback-index.result c.compare_exchange-was.result g.K.Subject.aim
    g.J.Regard.source c.args.seat.now.me c.compare_exchange-was.new.hand.me
    (c.callback-index.ensures.value ∙ ap (λ b. index b.frame.layout (OfCallback c.args.block c.args.node)) c.self.view_is)
    armed told.0)
    c.args.word c.run_from.result (told.1 armed) c.run_from.ensures.run

pub returns-else-says_armed-clause-stays : goal.returns-else-says_armed-clause-stays
returns-else-says_armed-clause-stays g t c =
    let b = c.args.self.now in
    hand-seated b c.args.seat.now c.compare_exchange-was.new.hand c.requires.table (c.compare_exchange-was.ensures.0, c.compare_exchange-was.ensures.1)
    (subst (IsSeated b.frame.tree b.frame.layout) (sym (c.compare_exchange-was.ensures.2.rest.1 c.if-was-word.false).0)
    (met-seated b.frame.tree b.frame.layout c.callback-index.result c.compare_exchange-was.result c.args.seat.now.me c.requires.table.seated
    g.K.Subject.aim g.J.Regard.source))

pub returns-else-says_armed-clause-run : goal.returns-else-says_armed-clause-run
returns-else-says_armed-clause-run g t c =
    let unarmed = sym c.says_armed.ensures ∙ c.if-says_armed.false in
    lost c.args.self.now c.args.source c.args.block c.args.node c.args.seat.now c.compare_exchange-was.new.hand c.args.word
    c.compare_exchange-was.result unarmed
    (met-unarmed c.args.self.now c.args.source c.args.block c.args.node c.callback-index.result c.compare_exchange-was.result
    g.K.Subject.aim g.J.Regard.source c.args.seat.now.me c.compare_exchange-was.new.hand.me
    (c.callback-index.ensures.value ∙ ap (λ b. index b.frame.layout (OfCallback c.args.block c.args.node)) c.self.view_is)
    c.requires.subject c.requires.source_is unarmed (c.compare_exchange-was.ensures.2.rest.1 c.if-was-word.false).0)

pub run_from-requires-clause-newest : goal.run_from-requires-clause-newest
run_from-requires-clause-newest g t c κs within =
    newest-logged (run_index c.args.self.now c.args.block c.args.node)
    c.compare_exchange-was.result c.args.seat.now.me c.compare_exchange-was.new.hand.me
    (met-armed c.args.self.now c.args.source c.args.block c.args.node c.callback-index.result
    c.compare_exchange-was.result g.K.Subject.aim g.J.Regard.source c.args.seat.now.me
    c.compare_exchange-was.new.hand.me
    (c.callback-index.ensures.value
    ∙ ap (λ b. index b.frame.layout (OfCallback c.args.block c.args.node)) c.self.view_is)
    (sym c.says_armed.ensures ∙ c.if-says_armed.true)
    (c.compare_exchange-was.ensures.2.rest.1 c.if-was-word.false).0)

pub run_from-requires-clause-needs : goal.run_from-requires-clause-needs
run_from-requires-clause-needs g t c κs within =
    can-run-logged (run_index c.args.self.now c.args.block c.args.node)
    c.compare_exchange-was.result c.args.seat.now.me c.compare_exchange-was.new.hand.me
    (met-armed c.args.self.now c.args.source c.args.block c.args.node c.callback-index.result
    c.compare_exchange-was.result g.K.Subject.aim g.J.Regard.source c.args.seat.now.me
    c.compare_exchange-was.new.hand.me
    (c.callback-index.ensures.value
    ∙ ap (λ b. index b.frame.layout (OfCallback c.args.block c.args.node)) c.self.view_is)
    (sym c.says_armed.ensures ∙ c.if-says_armed.true)
    (c.compare_exchange-was.ensures.2.rest.1 c.if-was-word.false).0)
    c.args.self.now.frame.tree c.args.source c.args.block c.args.node c.requires.needs

pub returns-then-says_armed-clause-stays : goal.returns-then-says_armed-clause-stays
returns-then-says_armed-clause-stays g t c =
    let stays = c.run_from.ensures.stays in
    record {
      same = (
        stays.same.0 ∙ c.compare_exchange-was.ensures.0,
        stays.same.1 ∙ c.compare_exchange-was.ensures.1,
      );
      hand = stays.hand;
    }
