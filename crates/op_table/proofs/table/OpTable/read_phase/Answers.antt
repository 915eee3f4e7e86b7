use Rattle.std.proofs.Common.{arith, sym, ap, ◌∙◌, subst}
use Rattle.table_words.specs.Layouts.{OfCallback, index}
use Rattle.table_steps.specs.Slots.{IsSeated}
use Rattle.table_steps.specs.Readings.{reads_phase}
use Rattle.table_hands_kept.proofs.Hands.{hand-seated}
use Rattle.table_stop_kept.proofs.ReadAllowed.{phase-at, phase-seated}
use Rattle.op_table.proofs.table.OpTable.read_phase.Goals as goal

pub load-word-requires-clause-table : goal.load-word-requires-clause-table
load-word-requires-clause-table g c =
    c.requires.table.table_is ∙ sym (ap (λ b. b.table_id) c.self.view_is)

pub load-word-requires-clause-within : goal.load-word-requires-clause-within
load-word-requires-clause-within g c =
    let counts = c.self.invariant.2 in
    let within = c.callback-index.ensures.within in
    omega (arith, counts, within)

pub load-word-requires-clause-allows : goal.load-word-requires-clause-allows
load-word-requires-clause-allows g c =
    phase-at g.P.Cargo c.args.self.now.frame c.self.inside.table.key _ c.args.seat.now.id
    c.callback-index.result c.args.name g.K.Subject.aim.name c.args.seat.now.me
    (sym (ap (λ b. b.frame) c.self.view_is) ∙ sym c.self.invariant.0)
    (c.callback-index.ensures.value ∙ ap (λ b. index b.frame.layout (OfCallback c.args.name.block c.args.name.node)) c.self.view_is)
    (ap (λ a. a.name) c.requires.subject) c.requires.holds c.requires.table.seated.itself

pub returns-clause-phase : goal.returns-clause-phase
returns-clause-phase g c = (
  c.load-word.result,
  c.says_phase.ensures,
  c.load-word.ensures.2.rest
      ∙ ap (λ a. reads_phase a.name c.callback-index.result c.load-word.result c.args.seat.now.me) c.requires.subject
      ∙ ap (λ i. reads_phase c.args.name i c.load-word.result c.args.seat.now.me)
      (c.callback-index.ensures.value ∙ ap (λ b. index b.frame.layout (OfCallback c.args.name.block c.args.name.node)) c.self.view_is),
)

pub returns-clause-stays : goal.returns-clause-stays
returns-clause-stays g c =
    let b = c.args.self.now in
    hand-seated b c.args.seat.now c.load-word.new.hand c.requires.table (c.load-word.ensures.0, c.load-word.ensures.1)
    (subst (IsSeated b.frame.tree b.frame.layout) (sym c.load-word.ensures.2.rest)
    (phase-seated b.frame.tree b.frame.layout g.K.Subject.aim.name c.callback-index.result c.load-word.result
    c.args.seat.now.me c.requires.table.seated))
