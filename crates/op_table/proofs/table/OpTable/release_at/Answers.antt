use Rattle.std.proofs.Common.{arith, sym, ap, ◌∙◌}
use Rattle.table_steps.specs.Claims.{root_name}
use Rattle.table_words.specs.Layouts.{OfBlock, index}
use Rattle.table_hands_kept.proofs.Hands.{hand-aimed}
use Rattle.table_life_kept.proofs.Release.Allowed.{releases-at, releases-told, empties-told, stay-empty}
use Rattle.op_table.proofs.table.OpTable.release_at.Goals as goal

pub store-requires-clause-table : goal.store-requires-clause-table
store-requires-clause-table g c =
    c.requires.table.table_is ∙ sym (ap (λ b. b.table_id) c.self.view_is)

pub store-requires-clause-within : goal.store-requires-clause-within
store-requires-clause-within g c =
    let counts = c.self.invariant.2 in
    let within = c.block-index.ensures.within in
    omega (arith, counts, within)

pub store-requires-clause-allows : goal.store-requires-clause-allows
store-requires-clause-allows g c =
    releases-at g.P.Cargo c.args.self.now.frame c.self.inside.table.key _ c.args.seat.now.id
    c.block-index.result c.block_number-free.result c.args.block.index c.args.block.generation g.J.Site.hand
    g.K.Subject.aim g.J.Site.frames c.args.seat.now.me (sym (ap (λ b. b.frame) c.self.view_is) ∙ sym c.self.invariant.0) (c.block-index.ensures.value ∙ ap (λ b. index b.frame.layout (OfBlock c.args.block.index)) c.self.view_is)
    c.requires.subject c.requires.frames c.requires.site c.requires.table.seated c.requires.needs
    (c.block_number-free.ensures.reads ∙ c.word_after.ensures) c.requires.table.seated.itself

pub returns-clause-released : goal.returns-clause-released
returns-clause-released g c =
    releases-told g.P.Cargo c.args.self.now.frame c.block-index.result g.J.Site.hand c.store.ensures.2.0
    c.block_number-free.result _ (root_name c.args.self.now c.args.block.index c.args.block.generation)
    g.K.Subject.aim g.J.Site.frames c.args.seat.now.me c.store.new.hand.me (c.block-index.ensures.value ∙ ap (λ b. index b.frame.layout (OfBlock c.args.block.index)) c.self.view_is)
    c.requires.subject (c.block_number-free.ensures.reads ∙ c.word_after.ensures) c.store.ensures.2.1.rest

pub returns-clause-stays : goal.returns-clause-stays
returns-clause-stays g c =
    hand-aimed c.args.self.now c.args.seat.now c.store.new.hand c.requires.table (c.store.ensures.0, c.store.ensures.1)
    (root_name c.args.self.now c.args.block.index c.args.block.generation) g.K.Subject.aim c.requires.subject
    (λ _. c.store.ensures.2.1.rest.did.seated)

pub returns-clause-empty : goal.returns-clause-empty
returns-clause-empty g c =
    empties-told g.P.Cargo c.args.self.now.frame c.block-index.result g.J.Site.hand c.store.new.hand.id
    c.store.ensures.2.0 c.block_number-free.result (root_name c.args.self.now c.args.block.index c.args.block.generation)
    g.K.Subject.aim g.J.Site.frames c.args.seat.now.me c.store.new.hand.me c.requires.subject
    c.requires.frames (c.requires.site ∙ sym c.store.ensures.1) c.store.ensures.2.1.rest

pub returns-clause-stay : goal.returns-clause-stay
returns-clause-stay g c = stay-empty g.P.Cargo c.args.self.now.frame c.args.block.index c.requires.block
