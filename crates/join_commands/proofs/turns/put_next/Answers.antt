use Rattle.std.proofs.Common.{ℕ, List, sym, ap, subst, ◌∙◌}
use Rattle.std.specs.Prelude.{slice_get}
use Rattle.part_lines.specs.Lines.{numbered_line}
use Rattle.part_lines.specs.Readers.{IsNext}
use Rattle.join_commands.specs.Faults.{at_part}
use Rattle.join_commands.proofs.TurnLaws.{at_kept, at_line, at_next, at_no_end, same_line, unread, wrote, wrote_not}
use Rattle.join_commands.proofs.turns.put_next.Goals as goal

pub returns-in-Ok-clause-puts : goal.returns-in-Ok-clause-puts
returns-in-Ok-clause-puts g c = λ said words at is.
    let next = subst (IsNext c.next.new.self) c.in-Ok-Some.field-0-is c.in-Ok-Some.ensures.next in
    let read : List ℕ = next.0 in
    let kept = at_kept said c.args.reader.now c.next.new.self at c.in-Ok-Some.ensures.ahead c.in-Ok-Some.ensures.passed in
    let there = at_line said c.next.new.self c.in-Ok-Some.said read kept next.1.ahead in
    let same = same_line said c.args.reader.now.passed c.args.number words read is (ap (slice_get said) (sym c.in-Ok-Some.ensures.passed) ∙ there) in
    wrote c.args.number words read (g.K.Sink.told c.args.out.now) (g.K.Sink.told c.put_line.new.out) same (c.in-Ok.ensures read next.1)

pub returns-in-Ok-clause-on : goal.returns-in-Ok-clause-on
returns-in-Ok-clause-on g c = λ said at.
    let next = subst (IsNext c.next.new.self) c.in-Ok-Some.field-0-is c.in-Ok-Some.ensures.next in
    let kept = at_kept said c.args.reader.now c.next.new.self at c.in-Ok-Some.ensures.ahead c.in-Ok-Some.ensures.passed in
    at_next said c.next.new.self c.pass.new.self c.in-Ok-Some.said next.0 kept next.1.ahead c.pass.ensures.passed c.pass.ensures.ahead

pub returns-in-Err-put_line-clause-puts : goal.returns-in-Err-put_line-clause-puts
returns-in-Err-put_line-clause-puts g c = λ said words at is.
    let next = subst (IsNext c.next.new.self) c.in-Ok-Some.field-0-is c.in-Ok-Some.ensures.next in
    let read : List ℕ = next.0 in
    let kept = at_kept said c.args.reader.now c.next.new.self at c.in-Ok-Some.ensures.ahead c.in-Ok-Some.ensures.passed in
    let there = at_line said c.next.new.self c.in-Ok-Some.said read kept next.1.ahead in
    let same = same_line said c.args.reader.now.passed c.args.number words read is (ap (slice_get said) (sym c.in-Ok-Some.ensures.passed) ∙ there) in
    wrote_not c.args.number words read (g.K.Sink.told c.args.out.now) (g.K.Sink.told c.put_line.new.out) _ same (c.in-Err-put_line.ensures read next.1)

pub returns-in-Ok-None-clause-puts : goal.returns-in-Ok-None-clause-puts
returns-in-Ok-None-clause-puts g c = λ said words at is.
    let end = subst (IsNext c.next.new.self) c.in-Ok-None.field-0-is c.in-Ok-None.ensures.next in
    let kept = at_kept said c.args.reader.now c.next.new.self at c.in-Ok-None.ensures.ahead c.in-Ok-None.ensures.passed in
    absurd (at_no_end said c.next.new.self words kept end (ap (slice_get said) c.in-Ok-None.ensures.passed ∙ is))

pub returns-in-Err-clause-puts : goal.returns-in-Err-clause-puts
returns-in-Err-clause-puts g c = λ said words at is.
    unread said (numbered_line c.args.number words) c.args.reader.now (g.K.Sink.told c.args.out.now) c.args.at c.in-Err.fault c.at_part.result at c.in-Err.ensures.fault
    (c.at_part.ensures ∙ ap (at_part c.args.at) c.of_lines.ensures)

pub returns-in-Ok-clause-same : goal.returns-in-Ok-clause-same
returns-in-Ok-clause-same g c = c.in-Ok-Some.ensures.same

pub returns-in-Err-put_line-clause-same : goal.returns-in-Err-put_line-clause-same
returns-in-Err-put_line-clause-same g c = c.in-Ok-Some.ensures.same

pub returns-in-Ok-None-clause-same : goal.returns-in-Ok-None-clause-same
returns-in-Ok-None-clause-same g c = c.in-Ok-None.ensures.same

pub returns-in-Err-clause-same : goal.returns-in-Err-clause-same
returns-in-Err-clause-same g c = c.in-Err.ensures.same
