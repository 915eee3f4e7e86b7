use Rattle.std.proofs.Common.{arith, sym, ap, ◌∙◌}
use Rattle.table_words.specs.Layouts.{OfControl, index}
use Rattle.table_steps.specs.Readings.{above_it}
use Rattle.table_hands_kept.proofs.Hands.{hand-aimed}
use Rattle.table_life_kept.proofs.Report.Told.{reports-above, reports-told, reports-seated}
use Rattle.op_table.proofs.table.OpTable.report_to.Goals as goal

pub fetch_sub-word-requires-clause-table : goal.fetch_sub-word-requires-clause-table
fetch_sub-word-requires-clause-table g c =
    c.requires.table.table_is ∙ sym (ap (λ b. b.table_id) c.self.view_is)

pub fetch_sub-word-requires-clause-within : goal.fetch_sub-word-requires-clause-within
fetch_sub-word-requires-clause-within g c =
    let counts = c.self.invariant.2 in
    let within = c.control-index.ensures.within in
    omega (arith, counts, within)

pub fetch_sub-word-requires-clause-allows : goal.fetch_sub-word-requires-clause-allows
fetch_sub-word-requires-clause-allows g c =
    let p = c.args.parent in
    reports-above g.P.Cargo c.args.self.now.frame c.self.inside.table.key _ c.args.seat.now.id c.control-index.result
    c.args.name g.J.Subject.aim.name p g.K.Subject.aim g.L.Keyed.overs c.args.seat.now.me c.requires.needs
    (sym (ap (λ b. b.frame) c.self.view_is) ∙ sym c.self.invariant.0) c.requires.above
    (c.control-index.ensures.value ∙ ap (λ b. index b.frame.layout (OfControl p.block p.node)) c.self.view_is)
    c.requires.parent (ap (λ a. a.name) c.requires.child) c.requires.key c.words_are_exact.ensures.control c.requires.table.seated.itself

pub returns-clause-reported : goal.returns-clause-reported
returns-clause-reported g c =
    let p = c.args.parent in
    reports-told g.P.Cargo c.args.self.now.frame c.self.inside.table.table_id.slots c.control-index.result c.args.name
    g.J.Subject.aim.name p g.K.Subject.aim g.L.Keyed.overs c.args.seat.now.me c.fetch_sub-word.new.hand.me c.fetch_sub-word.result
    c.report_of.result c.requires.above
    (c.control-index.ensures.value ∙ ap (λ b. index b.frame.layout (OfControl p.block p.node)) c.self.view_is)
    c.requires.parent (ap (λ a. a.name) c.requires.child) c.requires.key c.report_of.ensures.last c.report_of.ensures.others
    c.fetch_sub-word.ensures.2.rest

pub returns-clause-stays : goal.returns-clause-stays
returns-clause-stays g c =
    hand-aimed c.args.self.now c.args.seat.now c.fetch_sub-word.new.hand c.requires.table (c.fetch_sub-word.ensures.0, c.fetch_sub-word.ensures.1)
    (above_it c.args.self.now.frame.tree c.args.name) g.K.Subject.aim c.requires.parent
    (reports-seated g.P.Cargo g.K.Subject.aim g.J.Subject.aim.name g.L.Keyed.overs c.self.inside.table.table_id.slots
    c.control-index.result c.args.seat.now.me c.fetch_sub-word.new.hand.me c.fetch_sub-word.result c.fetch_sub-word.ensures.2.rest)
