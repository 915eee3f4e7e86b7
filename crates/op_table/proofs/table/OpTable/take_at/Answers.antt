use Rattle.std.proofs.Common.{arith, refl, sym, ap, ◌∙◌}
use Rattle.life_rules.specs.Words.{pending}
use Rattle.table_words.specs.Controls.{control_written}
use Rattle.table_words.specs.Layouts.{OfControl, index}
use Rattle.table_hands_kept.proofs.Hands.{hand-aimed}
use Rattle.table_life_kept.proofs.Rest.Told.{rest-pending, takes-at, takes-told, taken-seated}
use Rattle.op_table.proofs.table.OpTable.take_at.Goals as goal

pub control_number-rests-requires : goal.control_number-rests-requires
control_number-rests-requires g c =
    let none = ap pending c.word_at.ensures ∙ rest-pending c.args.from in omega (arith, none)

pub compare_exchange-was-requires-clause-table : goal.compare_exchange-was-requires-clause-table
compare_exchange-was-requires-clause-table g c =
    c.requires.table.table_is ∙ sym (ap (λ b. b.table_id) c.self.view_is)

pub compare_exchange-was-requires-clause-within : goal.compare_exchange-was-requires-clause-within
compare_exchange-was-requires-clause-within g c =
    let counts = c.self.invariant.2 in
    let within = c.control-index.ensures.within in
    omega (arith, counts, within)

pub compare_exchange-was-requires-clause-allows : goal.compare_exchange-was-requires-clause-allows
compare_exchange-was-requires-clause-allows g c =
    takes-at g.P.Cargo c.args.self.now.frame c.self.inside.table.key _ c.args.seat.now.id
    c.control-index.result c.control_number-rests.result c.control_number-held.result c.args.name c.args.from
    g.K.Subject.aim g.J.Keyed.overs c.args.seat.now.me
    (sym (ap (λ b. b.frame) c.self.view_is) ∙ sym c.self.invariant.0)
    (c.control-index.ensures.value ∙ ap (λ b. index b.frame.layout (OfControl c.args.name.block c.args.name.node)) c.self.view_is)
    c.requires.subject c.requires.key c.requires.place.block c.requires.place.node c.requires.serves
    c.control_number-rests.ensures.stamp (c.control_number-rests.ensures.control ∙ c.word_at.ensures)
    c.control_number-held.ensures.stamp c.control_number-held.ensures.control c.requires.table.seated.itself

pub returns-clause-stays : goal.returns-clause-stays
returns-clause-stays g c =
    hand-aimed c.args.self.now c.args.seat.now c.compare_exchange-was.new.hand c.requires.table
    (c.compare_exchange-was.ensures.0, c.compare_exchange-was.ensures.1) c.args.name g.K.Subject.aim c.requires.subject
    (taken-seated g.P.Cargo g.K.Subject.aim g.J.Keyed.overs c.self.inside.table.table_id.slots
    c.control-index.result c.control_number-rests.result
    c.control_number-held.result c.args.seat.now.me c.compare_exchange-was.new.hand.me c.compare_exchange-was.result
    c.compare_exchange-was.ensures.2.rest)

pub returns-clause-taken : goal.returns-clause-taken
returns-clause-taken g c =
    takes-told g.P.Cargo c.args.self.now.frame c.self.inside.table.table_id.slots c.control-index.result
    c.control_number-rests.result c.control_number-held.result c.args.name c.args.from g.K.Subject.aim g.J.Keyed.overs
    c.args.seat.now.me c.compare_exchange-was.new.hand.me c.compare_exchange-was.result _
    (c.control-index.ensures.value ∙ ap (λ b. index b.frame.layout (OfControl c.args.name.block c.args.name.node)) c.self.view_is)
    c.requires.subject c.requires.key
    (c.control_number-rests.ensures.value ∙ ap (control_written c.args.name.generation) c.word_at.ensures)
    (record { stamp_is = c.control_number-held.ensures.stamp; reads = c.control_number-held.ensures.control }) refl
    c.compare_exchange-was.ensures.2.rest
