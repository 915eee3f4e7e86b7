use Rattle.std.proofs.Common.{arith, sym, ap, ◌∙◌, subst}
use Rattle.table_words.specs.Layouts.{index}
use Rattle.table_steps.specs.Slots.{IsSeated}
use Rattle.table_steps.specs.Sights.{spot_of, says_requested, looks_at, StillAsked, AgreesWithTold}
use Rattle.table_hands_kept.proofs.Hands.{hand-seated}
use Rattle.table_stop_kept.proofs.Look.Runs.{look-at, look-seated}
use Rattle.op_table.proofs.table.OpTable.look_after.Goals as goal

pub load-word-requires-clause-table : goal.load-word-requires-clause-table
load-word-requires-clause-table g c =
    c.requires.table.table_is ∙ sym (ap (λ b. b.table_id) c.self.view_is)

pub load-word-requires-clause-within : goal.load-word-requires-clause-within
load-word-requires-clause-within g c =
    let counts = c.self.invariant.2 in
    let within = c.source_index-index.ensures.within in
    omega (arith, counts, within)

pub load-word-requires-clause-allows : goal.load-word-requires-clause-allows
load-word-requires-clause-allows g c =
    look-at g.P.Cargo c.args.self.now.frame c.self.inside.table.key _ c.args.seat.now.id
    c.source_index-index.result g.K.Regard.tree c.args.source g.K.Regard.source c.args.after g.K.Regard.after c.args.seat.now.me
    (sym (ap (λ b. b.frame) c.self.view_is) ∙ sym c.self.invariant.0) c.requires.tree_is
    (c.source_index-index.ensures.value ∙ ap (λ b. index b.frame.layout (spot_of c.args.source)) c.self.view_is)
    c.requires.source_is c.requires.after_is c.requires.source.spot c.requires.after c.requires.table.seated.itself

pub returns-clause-looked : goal.returns-clause-looked
returns-clause-looked g c = (
  c.load-word.result,
  c.says_requested.ensures,
  c.load-word.ensures.2.rest.0
      ∙ (λ k. looks_at (c.requires.source_is k) (c.requires.after_is k) c.source_index-index.result c.load-word.result c.args.seat.now.me)
      ∙ ap (λ i. looks_at c.args.source c.args.after i c.load-word.result c.args.seat.now.me)
      (c.source_index-index.ensures.value ∙ ap (λ b. index b.frame.layout (spot_of c.args.source)) c.self.view_is),
)

pub returns-clause-stays : goal.returns-clause-stays
returns-clause-stays g c =
    let b = c.args.self.now in
    hand-seated b c.args.seat.now c.load-word.new.hand c.requires.table (c.load-word.ensures.0, c.load-word.ensures.1)
    (subst (IsSeated b.frame.tree b.frame.layout) (sym c.load-word.ensures.2.rest.0)
    (look-seated b.frame.tree b.frame.layout g.K.Regard.source g.K.Regard.after c.source_index-index.result c.load-word.result
    c.args.seat.now.me c.requires.table.seated))

pub returns-clause-stands : goal.returns-clause-stands
returns-clause-stands g c =
    subst (StillAsked c.args.seat.now.me.0 c.args.source) (sym c.says_requested.ensures)
    (subst (λ t. StillAsked c.args.seat.now.me.0 t (says_requested t c.load-word.result)) c.requires.source_is c.load-word.ensures.2.rest.1)

pub returns-clause-told : goal.returns-clause-told
returns-clause-told g c =
    let v = c.args.seat.now.me.0 in
    subst (AgreesWithTold c.args.self.now.frame.tree v c.args.source) (sym c.says_requested.ensures)
    (subst (λ t. AgreesWithTold c.args.self.now.frame.tree v t (says_requested t c.load-word.result)) c.requires.source_is
    (subst (λ tree. AgreesWithTold tree v g.K.Regard.source (says_requested g.K.Regard.source c.load-word.result)) c.requires.tree_is
    c.load-word.ensures.2.rest.2))
