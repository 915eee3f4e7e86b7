use Rattle.std.proofs.Common.{arith, sym, ap, ◌∙◌}
use Rattle.table_words.specs.Layouts.{OfSource, index}
use Rattle.table_hands_kept.proofs.Hands.{hand-listed}
use Rattle.table_life_kept.proofs.Begin.Told.{renews-at}
use Rattle.op_table.proofs.table.OpTable.renew.Goals as goal

pub store-requires-clause-table : goal.store-requires-clause-table
store-requires-clause-table g c =
    c.requires.table.table_is ∙ sym (ap (λ b. b.table_id) c.self.view_is)

pub store-requires-clause-within : goal.store-requires-clause-within
store-requires-clause-within g c =
    let counts = c.self.invariant.2 in
    let within = c.source-index.ensures.within in
    omega (arith, counts, within)

pub store-requires-clause-allows : goal.store-requires-clause-allows
store-requires-clause-allows g c =
    renews-at g.P.Cargo c.args.self.now.frame c.self.inside.table.key _ c.args.seat.now.id
    c.source-index.result c.source_number-clear.result c.args.name g.K.Subject.aim.name c.args.seat.now.me
    (sym (ap (λ b. b.frame) c.self.view_is) ∙ sym c.self.invariant.0) (c.source-index.ensures.value ∙ ap (λ b. index b.frame.layout (OfSource c.args.name.block c.args.name.node)) c.self.view_is)
    (ap (λ a. a.name) c.requires.subject) c.requires.needs c.source_number-clear.ensures.stamp c.source_number-clear.ensures.bits c.requires.table.seated.itself

pub returns-then-node-clause-stays : goal.returns-then-node-clause-stays
returns-then-node-clause-stays g c =
    hand-listed c.args.self.now c.args.seat.now c.store.new.hand c.requires.table
    (c.store.ensures.0, c.store.ensures.1) c.source-index.result c.store.ensures.2.0
    c.source_number-clear.result c.store.ensures.2.1.rest.me_is
