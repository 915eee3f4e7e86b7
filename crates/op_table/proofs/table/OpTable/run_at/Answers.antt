use Rattle.std.proofs.Common.{[], arith, sym, ap, ◌∙◌, subst}
use Rattle.table_words.specs.Layouts.{OfCallback, index}
use Rattle.table_steps.specs.Slots.{IsSeated}
use Rattle.table_steps.specs.Runs.{run_index}
use Rattle.table_hands_kept.proofs.Hands.{hand-seated, hand-logged}
use Rattle.table_stop_kept.proofs.Run.Allowed.{meets-at, met-seated}
use Rattle.table_stop_kept.proofs.Run.Told.{newest-logged, met-armed, met-unarmed, from-armed}
use Rattle.op_table.proofs.table.OpTable.run_at.Goals as goal

pub load-word-requires-clause-table : goal.load-word-requires-clause-table
load-word-requires-clause-table g c =
    c.requires.table.table_is ∙ sym (ap (λ b. b.table_id) c.self.view_is)

pub load-word-requires-clause-within : goal.load-word-requires-clause-within
load-word-requires-clause-within g c =
    let counts = c.self.invariant.2 in
    let within = c.callback-index.ensures.within in
    omega (arith, counts, within)

pub load-word-requires-clause-allows : goal.load-word-requires-clause-allows
load-word-requires-clause-allows g c =
    meets-at g.P.Cargo c.args.self.now.frame c.self.inside.table.key (record {
      slots = _;
      id = c.args.seat.now.id;
      cell = c.callback-index.result;
      source = c.args.source;
      other_source = g.J.Regard.source;
      block = c.args.block;
      place = c.args.node;
      aim = g.K.Subject.aim;
      seated = c.args.seat.now.me;
      same = sym (ap (λ b. b.frame) c.self.view_is) ∙ sym c.self.invariant.0;
      i_is = c.callback-index.ensures.value ∙ ap (λ b. index b.frame.layout (OfCallback c.args.block c.args.node)) c.self.view_is;
      aim_is = c.requires.subject;
      t_is = c.requires.source_is;
      can = c.requires.needs;
      within = c.requires.block;
    }) c.requires.table.seated.itself

pub run_from-requires-clause-table : goal.run_from-requires-clause-table
run_from-requires-clause-table g c κs within = (
    hand-logged c.args.self.now c.args.seat.now c.load-word.new.hand c.requires.table (c.load-word.ensures.0, c.load-word.ensures.1)
    (run_index c.args.self.now c.args.block c.args.node) c.load-word.result
    (met-armed c.args.self.now c.args.source c.args.block c.args.node c.callback-index.result c.load-word.result g.K.Subject.aim
    g.J.Regard.source c.args.seat.now.me c.load-word.new.hand.me
    (c.callback-index.ensures.value ∙ ap (λ b. index b.frame.layout (OfCallback c.args.block c.args.node)) c.self.view_is)
    (sym c.says_armed.ensures ∙ c.if-says_armed.true) c.load-word.ensures.2.rest)
    ).hand

pub run_from-requires-clause-newest : goal.run_from-requires-clause-newest
run_from-requires-clause-newest g c κs within =
    newest-logged (run_index c.args.self.now c.args.block c.args.node) c.load-word.result c.args.seat.now.me c.load-word.new.hand.me
    (met-armed c.args.self.now c.args.source c.args.block c.args.node c.callback-index.result c.load-word.result g.K.Subject.aim
    g.J.Regard.source c.args.seat.now.me c.load-word.new.hand.me
    (c.callback-index.ensures.value ∙ ap (λ b. index b.frame.layout (OfCallback c.args.block c.args.node)) c.self.view_is)
    (sym c.says_armed.ensures ∙ c.if-says_armed.true) c.load-word.ensures.2.rest)

pub returns-then-says_armed-clause-run : goal.returns-then-says_armed-clause-run
returns-then-says_armed-clause-run g c =
    let armed = sym c.says_armed.ensures ∙ c.if-says_armed.true in
    from-armed c.args.self.now c.args.source c.args.block c.args.node c.args.seat.now c.load-word.new.hand c.run_from.new.seat
    c.load-word.result armed
    (met-armed c.args.self.now c.args.source c.args.block c.args.node c.callback-index.result c.load-word.result g.K.Subject.aim
    g.J.Regard.source c.args.seat.now.me c.load-word.new.hand.me
    (c.callback-index.ensures.value ∙ ap (λ b. index b.frame.layout (OfCallback c.args.block c.args.node)) c.self.view_is)
    armed c.load-word.ensures.2.rest)
    c.run_from.result c.run_from.ensures.run

pub returns-else-says_armed-clause-stays : goal.returns-else-says_armed-clause-stays
returns-else-says_armed-clause-stays g c =
    let b = c.args.self.now in
    hand-seated b c.args.seat.now c.load-word.new.hand c.requires.table (c.load-word.ensures.0, c.load-word.ensures.1)
    (subst (IsSeated b.frame.tree b.frame.layout) (sym c.load-word.ensures.2.rest)
    (met-seated b.frame.tree b.frame.layout c.callback-index.result c.load-word.result c.args.seat.now.me c.requires.table.seated
    g.K.Subject.aim g.J.Regard.source))

pub returns-else-says_armed-clause-run : goal.returns-else-says_armed-clause-run
returns-else-says_armed-clause-run g c =
    let unarmed = sym c.says_armed.ensures ∙ c.if-says_armed.false in
    record {
      words = [];
      armed = tt;
      last = c.load-word.result;
      unarmed = unarmed;
      me_is = met-unarmed c.args.self.now c.args.source c.args.block c.args.node c.callback-index.result c.load-word.result
          g.K.Subject.aim g.J.Regard.source c.args.seat.now.me c.load-word.new.hand.me
          (c.callback-index.ensures.value ∙ ap (λ b. index b.frame.layout (OfCallback c.args.block c.args.node)) c.self.view_is)
          c.requires.subject c.requires.source_is unarmed c.load-word.ensures.2.rest;
    }
