use Rattle.std.proofs.Common.{arith, sym, ap, ◌∙◌, subst}
use Rattle.table_words.specs.Layouts.{OfBlock, index}
use Rattle.table_steps.specs.Slots.{Aim, IsSeated}
use Rattle.table_steps.specs.Skips.{skips_at}
use Rattle.table_hands_kept.proofs.Hands.{hand-seated}
use Rattle.table_stop_kept.proofs.Scan.Skip.{skips-at, skip-seated}
use Rattle.op_table.proofs.table.OpTable.skip_at.Goals as goal

pub load-word-requires-clause-table : goal.load-word-requires-clause-table
load-word-requires-clause-table g c =
    c.requires.table.table_is ∙ sym (ap (λ b. b.table_id) c.self.view_is)

pub load-word-requires-clause-within : goal.load-word-requires-clause-within
load-word-requires-clause-within g c =
    let counts = c.self.invariant.2 in
    let within = c.block-index.ensures.within in
    omega (arith, counts, within)

pub load-word-requires-clause-allows : goal.load-word-requires-clause-allows
load-word-requires-clause-allows g c =
    skips-at g.P.Cargo c.args.self.now.frame c.self.inside.table.key _ c.args.seat.now.id
    c.block-index.result c.args.first g.K.Subject.aim c.args.seat.now.me
    (sym (ap (λ b. b.frame) c.self.view_is) ∙ sym c.self.invariant.0)
    (c.block-index.ensures.value ∙ ap (λ b. index b.frame.layout (OfBlock c.args.first.block)) c.self.view_is)
    c.requires.subject c.requires.needs c.requires.block c.requires.table.seated.itself

pub returns-clause-stays : goal.returns-clause-stays
returns-clause-stays g c =
    let b = c.args.self.now in
    hand-seated b c.args.seat.now c.load-word.new.hand c.requires.table (c.load-word.ensures.0, c.load-word.ensures.1)
    (subst (IsSeated b.frame.tree b.frame.layout) (sym c.load-word.ensures.2.rest)
    (skip-seated b.frame.tree b.frame.layout c.block-index.result c.load-word.result g.K.Subject.aim.tree g.K.Subject.aim.name.block
    c.args.seat.now.me c.requires.table.seated))

pub returns-clause-skipped : goal.returns-clause-skipped
returns-clause-skipped g c =
    let word = c.load-word.result in
    let m = c.args.seat.now.me in
    record {
      word = word;
      answer_is = c.says_free.ensures;
      me_is = c.load-word.ensures.2.rest
          ∙ ap (λ (a : Aim). skips_at a.tree a.name.block c.block-index.result word m) c.requires.subject
          ∙ ap (λ i. skips_at c.args.self.now.frame.tree c.args.first.block i word m)
          (c.block-index.ensures.value ∙ ap (λ b. index b.frame.layout (OfBlock c.args.first.block)) c.self.view_is);
    }
