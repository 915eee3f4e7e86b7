use Rattle.std.proofs.Common.{◌∷◌, ◌++◌, [], List, ℕ, subst, ◌∙◌, arith}
use Rattle.part_lines.specs.Readers.{IsNext}
use Rattle.part_lines.proofs.ReadLaws.{kept_on, passed_on}
use Rattle.part_lines.proofs.counting.count_lines.Goals as goal

pub lines-preserved : goal.lines-preserved
lines-preserved g c =
    let next = subst (IsNext c.next.new.self) c.in-Ok-Some.field-0-is c.in-Ok-Some.ensures.next in
    let words : List ℕ = next.0 in
    record {
      read = λ text is.
          let before = c.lines.invariant.read text is in
          let kept = kept_on text before.0 c.lines.reader c.next.new.self before.1 c.in-Ok-Some.ensures.ahead c.in-Ok-Some.ensures.passed in
          (before.0 ++ words ∷ [], passed_on text before.0 c.next.new.self c.pass.new.self c.in-Ok-Some.said words kept next.1.ahead c.pass.ensures.passed c.pass.ensures.ahead, c.count.ensures.counts before.0 words before.2 next.1.at_hand.sort_is);
      passed = omega (arith, c.pass.ensures.passed, c.in-Ok-Some.ensures.passed, c.count.ensures.lines, c.lines.invariant.passed);
      few = omega (arith, next.1.at_hand.few, c.in-Ok-Some.ensures.passed, c.count.ensures.lines, c.lines.invariant.passed);
      texts = c.in-Ok-Some.ensures.same ∙ c.lines.invariant.texts;
      faults = c.in-Ok-Some.ensures.cause.still (λ e. cc) ∙ c.lines.invariant.faults;
    }
