use Rattle.std.proofs.Common.{◌≡◌, ◌<◌, ◌≤◌, ℕ, List, length, take, ap, subst, ◌∙◌, arith}
use Rattle.std.specs.Prelude.{IfErr}
use Rattle.join_commands.specs.declared.summary.Numbers.{Numbers}
use Rattle.join_commands.specs.Unsummed.{IsUnreadSummary}
use Rattle.join_commands.proofs.EndLaws.{look_cause_else, quiet_err}
use Rattle.join_commands.proofs.ReadingLaws.{no_summary_front}
use Rattle.join_commands.proofs.SummaryLaws.{read_or, read_whole}
use Rattle.join_commands.proofs.summary.read_file.Goals as goal

pub returns-clause-text : goal.returns-clause-text
returns-clause-text g c = λ text left.
    let long : length c.read_front.new.buf ≡ 1024 = c.read_front.auto.buf in
    let short : c.in-Ok.count < 1024 = omega (arith, c.in-Ok.ensures.within, long, c.if-count-eq-SUMMARY_BYTES.false) in
    read_or (take c.in-Ok.count c.read_front.new.buf) text c.read_summary.result
    (read_whole text c.read_front.new.buf c.in-Ok.count 1024 (c.in-Ok.ensures.front text left ∙ ap (λ n. take n text) long) c.in-Ok.ensures.within short)
    c.read_summary.ensures.text

pub returns-clause-cause : goal.returns-clause-cause
returns-clause-cause g c = look_cause_else _ _ c.read_summary.result (c.in-Ok.ensures.cause.still) (quiet_err c.read_summary.result c.read_summary.ensures.quiet)

pub returns-clause-refused : goal.returns-clause-refused
returns-clause-refused g c = λ text left.
    let long : length c.read_front.new.buf ≡ 1024 = c.read_front.auto.buf in
    let short : c.in-Ok.count < 1024 = omega (arith, c.in-Ok.ensures.within, long, c.if-count-eq-SUMMARY_BYTES.false) in
    subst (λ (l : List ℕ). IfErr {T = Numbers} c.read_summary.result (IsUnreadSummary l))
    (read_whole text c.read_front.new.buf c.in-Ok.count 1024 (c.in-Ok.ensures.front text left ∙ ap (λ n. take n text) long) c.in-Ok.ensures.within short)
    c.read_summary.ensures.refused

pub returns-then-count-eq-SUMMARY_BYTES-clause-refused : goal.returns-then-count-eq-SUMMARY_BYTES-clause-refused
returns-then-count-eq-SUMMARY_BYTES-clause-refused g c = λ text left.
    let long : length c.read_front.new.buf ≡ 1024 = c.read_front.auto.buf in
    let full : 1024 ≤ c.in-Ok.count = omega (arith, c.if-count-eq-SUMMARY_BYTES.true) in
    no_summary_front text c.read_front.new.buf c.in-Ok.count 1024 (c.in-Ok.ensures.front text left ∙ ap (λ n. take n text) long) c.in-Ok.ensures.within full (omega arith)
