use Rattle.std.proofs.Common.{◌≡◌, ◌∷◌, ◌++◌, ◌+◌, [], length, List, ℕ, refl, ap, subst, ◌∙◌, arith}
use Rattle.exec_io.specs.Sinks.{Appends}
use Rattle.exec_io.proofs.PutsLemmas.{Puts-nil}
use Rattle.part_lines.specs.Lines.{lines_from}
use Rattle.part_lines.specs.Readers.{IsNext}
use Rattle.part_lines.proofs.PutLaws.{all_passed, front_of_all, line_put, next_line, no_line_misses, one_more, put_fault}
use Rattle.part_lines.proofs.ReadLaws.{at_start, kept_on, passed_on}
use Rattle.part_lines.proofs.putting.put_lines.Goals as goal

pub lines-init : goal.lines-init
lines-init g c = record {
  read = λ text said is part. ([], said, refl, at_start text c.args.reader.now is c.requires.start, Puts-nil (g.K.Sink.told c.args.out.now));
  passed = omega (arith, c.requires.start);
  few = omega (arith, c.requires.start);
  texts = refl;
  read_faults = refl;
  write_faults = refl;
}

pub returns-in-Err-put_line-clause-puts : goal.returns-in-Err-put_line-clause-puts
returns-in-Err-put_line-clause-puts g c = λ text said is part.
    let next = subst (IsNext c.next.new.self) c.in-Ok-Some.field-0-is c.in-Ok-Some.ensures.next in
    let words : List ℕ = next.0 in
    let before = c.lines.invariant.read text said is part in
    let kept = kept_on text before.0 c.lines.reader c.next.new.self before.3 c.in-Ok-Some.ensures.ahead c.in-Ok-Some.ensures.passed in
    let step = next_line text said before.0 before.1 c.next.new.self part before.2 kept c.in-Ok-Some.said words next.1.ahead in
    let number : c.lines.written + 1 ≡ c.args.before + 1 + length before.0 = omega (arith, c.lines.invariant.passed, before.3.passed) in
    let put = line_put (c.args.before + 1) (c.lines.written + 1) before.0 words number before.4 (c.in-Err-put_line.ensures words next.1) in
    (front_of_all (c.args.before + 1) said (before.0 ++ words ∷ []) step.0 (one_more said before.0 step.0 before.1 words before.2 step.1) put.part, put.cause.failed)

pub lines-preserved : goal.lines-preserved
lines-preserved g c =
    let next = subst (IsNext c.next.new.self) c.in-Ok-Some.field-0-is c.in-Ok-Some.ensures.next in
    let words : List ℕ = next.0 in
    record {
      read = λ text said is part.
          let before = c.lines.invariant.read text said is part in
          let kept = kept_on text before.0 c.lines.reader c.next.new.self before.3 c.in-Ok-Some.ensures.ahead c.in-Ok-Some.ensures.passed in
          let step = next_line text said before.0 before.1 c.next.new.self part before.2 kept c.in-Ok-Some.said words next.1.ahead in
          let number : c.lines.written + 1 ≡ c.args.before + 1 + length before.0 = omega (arith, c.lines.invariant.passed, before.3.passed) in
          (before.0 ++ words ∷ [], step.0, one_more said before.0 step.0 before.1 words before.2 step.1, passed_on text before.0 c.next.new.self c.pass.new.self c.in-Ok-Some.said words kept next.1.ahead c.pass.ensures.passed c.pass.ensures.ahead, line_put (c.args.before + 1) (c.lines.written + 1) before.0 words number before.4 (c.in_default.ensures words next.1));
      passed = omega (arith, c.pass.ensures.passed, c.in-Ok-Some.ensures.passed, c.lines.invariant.passed);
      few = omega (arith, next.1.at_hand.few, c.pass.ensures.passed, c.in-Ok-Some.ensures.passed);
      texts = c.in-Ok-Some.ensures.same ∙ c.lines.invariant.texts;
      read_faults = c.in-Ok-Some.ensures.cause.still (λ e. cc) ∙ c.lines.invariant.read_faults;
      write_faults = (c.in_default.ensures words next.1).cause.still ∙ c.lines.invariant.write_faults;
    }

pub returns-in-Ok-None-clause-puts : goal.returns-in-Ok-None-clause-puts
returns-in-Ok-None-clause-puts g c = λ text said is part.
    let end = subst (IsNext c.next.new.self) c.in-Ok-None.field-0-is c.in-Ok-None.ensures.next in
    let before = c.lines.invariant.read text said is part in
    let kept = kept_on text before.0 c.lines.reader c.next.new.self before.3 c.in-Ok-None.ensures.ahead c.in-Ok-None.ensures.passed in
    let all = all_passed text said before.0 before.1 c.next.new.self part before.2 kept end in
    (subst (λ (l : List (List ℕ)). Appends (g.K.Sink.told c.args.out.now).written (g.K.Sink.told c.lines.out).written (lines_from (c.args.before + 1) l)) all before.4.ok, before.4.cause.still, omega (arith, c.lines.invariant.passed, before.3.passed, ap length all))

pub returns-in-Err-clause-puts : goal.returns-in-Err-clause-puts
returns-in-Err-clause-puts g c = λ text said is part.
    let before = c.lines.invariant.read text said is part in
    put_fault c.args.before said (g.K.Sink.told c.args.out.now) (g.K.Sink.told c.lines.out) c.lines.reader.ahead (c.lines.reader.passed + 1) c.in-Err.fault
    (no_line_misses text said before.0 before.1 c.lines.reader part before.2 before.3) c.in-Err.ensures.fault
    (front_of_all (c.args.before + 1) said before.0 before.1 before.2 before.4.part)
