use Rattle.std.proofs.Common.{◌≡◌, ℕ, ◌++◌, ◌∷◌, [], ◌∙◌, sym, ap, arith}
use Rattle.record_lines.specs.declared.limits.TheConstants.{LINE_FEED}
use Rattle.record_loop.specs.Generated.{shown_as, text_after}
use Rattle.record_loop.specs.declared.generated.Generated.TheInside.{Inside}
use Rattle.record_loop.proofs.GeneratedLaws.{nothing-left, shows-next, gives}
use Rattle.record_loop.proofs.generated.Generated.give.Goals as goal
use Rattle.record_loop.proofs.generated.Generated.give.Goals.{then-is_empty+else-self, else-is_empty}

pub returns-then-self-clause-ended : goal.returns-then-self-clause-ended
returns-then-self-clause-ended c = λ _.
    sym c.self.view_is ∙ nothing-left c.self.inside.line c.self.inside.shown c.self.inside.count c.self.inside.kind (sym c.is_empty.ensures ∙ c.if-is_empty.true) c.if-self.true

pub returns-clause-bytes : goal.returns-clause-bytes
returns-clause-bytes c =
    let now = c.if-is_empty.self-inside in
    before ∙ gives now.line (text_after now.shown now.kind now.count) c.args.buf.now c.give.new.buf c.give.new.self c.give.ensures.count c.give.ensures.bytes c.give.ensures.left
  where
    before : c.args.self.now ≡ c.if-is_empty.self-inside.line ++ text_after c.if-is_empty.self-inside.shown c.if-is_empty.self-inside.kind c.if-is_empty.self-inside.count
    before = elim c.if-is_empty.branch [
      | then-is_empty+else-self w ↦
          let old = c.self.inside in
          sym c.self.view_is
          ∙ shows-next old.line w.show.new.self old.shown old.count old.kind (sym c.is_empty.ensures ∙ w.if-is_empty.true) (omega (arith, c.self.invariant, w.if-self.false))
          (w.show.ensures ∙ ap (λ (n : ℕ). shown_as old.kind n ++ LINE_FEED ∷ []) w.number_shown.ensures)
          ∙ ap (λ (s : Inside). s.line ++ text_after s.shown s.kind s.count) (sym w.self-inside-is)
      | else-is_empty w ↦ sym c.self.view_is ∙ ap (λ (s : Inside). s.line ++ text_after s.shown s.kind s.count) (sym w.self-inside-is)
    ]
