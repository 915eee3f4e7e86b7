use Rattle.std.proofs.Common.{arith, sym, ap, ◌∙◌}
use Rattle.table_words.specs.Layouts.{OfControl, index}
use Rattle.table_life_kept.proofs.Begin.Told.{begins-at, begins-told}
use Rattle.op_table.proofs.table.OpTable.begin_at.Goals as goal

pub store-requires-clause-table : goal.store-requires-clause-table
store-requires-clause-table g c =
    c.requires.table.table_is ∙ sym (ap (λ b. b.table_id) c.self.view_is)

pub store-requires-clause-within : goal.store-requires-clause-within
store-requires-clause-within g c =
    let counts = c.self.invariant.2 in
    let within = c.control-index.ensures.within in
    omega (arith, counts, within)

pub store-requires-clause-allows : goal.store-requires-clause-allows
store-requires-clause-allows g c =
    begins-at g.P.Cargo c.args.self.now.frame c.self.inside.table.key _ c.args.seat.now.id
    c.control-index.result c.control_number-held.result c.args.name g.K.Subject.aim c.args.seat.now.me
    (sym (ap (λ b. b.frame) c.self.view_is) ∙ sym c.self.invariant.0) (c.control-index.ensures.value ∙ ap (λ b. index b.frame.layout (OfControl c.args.name.block c.args.name.node)) c.self.view_is)
    c.requires.subject c.requires.needs c.requires.renewed c.control_number-held.ensures.stamp c.control_number-held.ensures.control c.requires.table.seated.itself

pub returns-clause-begun : goal.returns-clause-begun
returns-clause-begun g c =
    begins-told g.P.Cargo c.args.self.now.frame c.control-index.result c.store.ensures.2.0 c.control_number-held.result c.args.name g.K.Subject.aim c.args.seat.now.me
    c.store.new.hand.me
    (c.control-index.ensures.value ∙ ap (λ b. index b.frame.layout (OfControl c.args.name.block c.args.name.node)) c.self.view_is)
    c.requires.subject c.control_number-held.ensures.stamp c.control_number-held.ensures.control c.store.ensures.2.1.rest
