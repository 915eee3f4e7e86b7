use Rattle.std.proofs.Common.{arith, sym, ap, ◌∙◌, subst}
use Rattle.life_rules.specs.declared.event.Name.{Name}
use Rattle.table_words.specs.Layouts.{OfControl, index}
use Rattle.table_steps.specs.Slots.{IsSeated}
use Rattle.table_steps.specs.Readings.{above_it, says_begun, reads_child, KnowsIdle}
use Rattle.table_hands_kept.proofs.Hands.{hand-seated}
use Rattle.table_stop_kept.proofs.ReadAllowed.{child-at, child-seated}
use Rattle.op_table.proofs.table.OpTable.read_child.Goals as goal

pub load-word-requires-clause-table : goal.load-word-requires-clause-table
load-word-requires-clause-table g c =
    c.requires.table.table_is ∙ sym (ap (λ b. b.table_id) c.self.view_is)

pub load-word-requires-clause-within : goal.load-word-requires-clause-within
load-word-requires-clause-within g c =
    let counts = c.self.invariant.2 in
    let within = c.control-index.ensures.within in
    omega (arith, counts, within)

pub load-word-requires-clause-allows : goal.load-word-requires-clause-allows
load-word-requires-clause-allows g c =
    child-at g.P.Cargo c.args.self.now.frame c.self.inside.table.key _ c.args.seat.now.id
    c.control-index.result c.args.child g.K.Subject.aim.name g.J.Subject.aim.name c.args.seat.now.me
    (sym (ap (λ b. b.frame) c.self.view_is) ∙ sym c.self.invariant.0)
    (c.control-index.ensures.value ∙ ap (λ b. index b.frame.layout (OfControl c.args.child.block c.args.child.node)) c.self.view_is)
    (ap (λ a. a.name) c.requires.parent) (ap (λ a. a.name) c.requires.child) c.requires.holds c.requires.table.seated.itself

pub returns-clause-begun : goal.returns-clause-begun
returns-clause-begun g c =
    let above = above_it c.args.self.now.frame.tree c.args.child in (
      c.load-word.result,
      c.says_begun.ensures,
      c.load-word.ensures.2.rest.0
          ∙ ap (λ a. reads_child a.name g.J.Subject.aim.name c.control-index.result c.load-word.result c.args.seat.now.me) c.requires.parent
          ∙ ap (λ a. reads_child above a.name c.control-index.result c.load-word.result c.args.seat.now.me) c.requires.child
          ∙ ap (λ i. reads_child above c.args.child i c.load-word.result c.args.seat.now.me)
          (c.control-index.ensures.value ∙ ap (λ b. index b.frame.layout (OfControl c.args.child.block c.args.child.node)) c.self.view_is),
    )

pub returns-clause-idle : goal.returns-clause-idle
returns-clause-idle g c known =
    let parent = ap (λ a. a.name) c.requires.parent in
    let child = ap (λ a. a.name) c.requires.child in
    c.says_begun.ensures
    ∙ ap (λ (y : Name). says_begun y.generation c.load-word.result) (sym child)
    ∙ c.load-word.ensures.2.rest.1
    (subst (λ (z : Name × Name). KnowsIdle z.0 z.1.node c.args.seat.now.me) (λ k. (sym parent k, sym child k)) known)

pub returns-clause-stays : goal.returns-clause-stays
returns-clause-stays g c =
    let b = c.args.self.now in
    hand-seated b c.args.seat.now c.load-word.new.hand c.requires.table (c.load-word.ensures.0, c.load-word.ensures.1)
    (subst (IsSeated b.frame.tree b.frame.layout) (sym c.load-word.ensures.2.rest.0)
    (child-seated b.frame.tree b.frame.layout g.K.Subject.aim.name g.J.Subject.aim.name c.control-index.result c.load-word.result
    c.args.seat.now.me c.requires.table.seated))
