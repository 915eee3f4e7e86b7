use Rattle.std.proofs.Common.{◌≡◌, ◌≤◌, length, arith, sym, ap, ◌∙◌}
use Rattle.table_words.specs.Layouts.{OfControl, index}
use Rattle.table_hands_kept.proofs.Hands.{hand-aimed}
use Rattle.table_life_kept.proofs.Await.Size.{named-most}
use Rattle.table_life_kept.proofs.Await.Allowed.{awaits-at, awaits-told}
use Rattle.op_table.proofs.table.OpTable.await_at.Goals as goal

pub store-requires-clause-table : goal.store-requires-clause-table
store-requires-clause-table g c =
    c.requires.table.table_is ∙ sym (ap (λ b. b.table_id) c.self.view_is)

pub store-requires-clause-within : goal.store-requires-clause-within
store-requires-clause-within g c =
    let counts = c.self.invariant.2 in
    let within = c.control-index.ensures.within in
    omega (arith, counts, within)

pub store-requires-clause-allows : goal.store-requires-clause-allows
store-requires-clause-allows g c =
    awaits-at g.P.Cargo c.args.self.now.frame c.self.inside.table.key _ c.args.seat.now.id
    c.control-index.result c.control_number-busy.result c.args.name c.args.children.now g.J.Naming.names
    g.K.Subject.aim c.args.seat.now.me
    (sym (ap (λ b. b.frame) c.self.view_is) ∙ sym c.self.invariant.0)
    (c.control-index.ensures.value ∙ ap (λ b. index b.frame.layout (OfControl c.args.name.block c.args.name.node)) c.self.view_is)
    c.requires.subject c.requires.names c.requires.table.seated c.requires.needs c.control_number-busy.ensures.stamp
    c.control_number-busy.ensures.control c.requires.table.seated.itself

pub returns-clause-awaits : goal.returns-clause-awaits
returns-clause-awaits g c =
    awaits-told g.P.Cargo c.args.self.now.frame c.control-index.result c.store.ensures.2.0 c.control_number-busy.result c.args.name c.args.children.now g.J.Naming.names
    g.K.Subject.aim c.args.seat.now.me c.store.new.hand.me
    (c.control-index.ensures.value ∙ ap (λ b. index b.frame.layout (OfControl c.args.name.block c.args.name.node)) c.self.view_is)
    c.requires.subject c.requires.names c.control_number-busy.ensures.stamp c.control_number-busy.ensures.control
    c.store.ensures.2.1.rest

pub returns-clause-stays : goal.returns-clause-stays
returns-clause-stays g c =
    hand-aimed c.args.self.now c.args.seat.now c.store.new.hand c.requires.table (c.store.ensures.0, c.store.ensures.1) c.args.name
    g.K.Subject.aim c.requires.subject (λ _. c.store.ensures.2.1.rest.did.seated)

pub overflow_cast-pending : goal.overflow_cast-pending
overflow_cast-pending g c =
    let most = named-most g.P.Cargo c.args.self.now.frame c.args.seat.now.me c.args.name c.args.children.now c.requires.needs in
    let small : length c.self.inside.frame.tree ≤ 1025 = c.self.invariant.1.most_nodes in
    let same : length c.self.inside.frame.tree ≡ length c.args.self.now.frame.tree = ap (λ b. length b.frame.tree) c.self.view_is in
    omega (arith, most, small, same)

pub control_number-busy-requires : goal.control_number-busy-requires
control_number-busy-requires g c =
    let most = named-most g.P.Cargo c.args.self.now.frame c.args.seat.now.me c.args.name c.args.children.now c.requires.needs in
    let small : length c.self.inside.frame.tree ≤ 1025 = c.self.invariant.1.most_nodes in
    let same : length c.self.inside.frame.tree ≡ length c.args.self.now.frame.tree = ap (λ b. length b.frame.tree) c.self.view_is in
    omega (arith, most, small, same)
