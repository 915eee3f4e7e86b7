use Rattle.std.proofs.Common.{◌+◌, ◌<◌, length, Err, ap, refl, sym, ◌∙◌, arith}
use Rattle.std.specs.List.{flat_map}
use Rattle.std.proofs.lemmas.List.Folds.{length-flat_map-take}
use Rattle.exec_value.specs.declared.limits.TheConstants.{INLINE_BYTES}
use Rattle.exec_job.specs.Apply.{bytes_of}
use Rattle.exec_job.proofs.AnswerLemmas.{Gives-no_memory, long_text, more_than}
use Rattle.exec_job.proofs.texts.join.Goals as goal

pub append-requires : goal.append-requires
append-requires c =
    let whole = length-flat_map-take bytes_of c.args.operands.now c.loop-datum.datum-index c.datum-item.result c.loop-datum-test.true in
    let item = ap (λ d. length (bytes_of d)) (sym c.datum-item.is ∙ c.in-Text.is) in
    omega (arith, whole, item, ap length c.loop-datum.invariant, c.joined_len.ensures, c.if-joined_len-gt-TEXT_BYTES.false)

pub returns-in_err-append : goal.returns-in_err-append
returns-in_err-append c =
    let whole = length-flat_map-take bytes_of c.args.operands.now c.loop-datum.datum-index c.datum-item.result c.loop-datum-test.true in
    let item = ap (λ d. length (bytes_of d)) (sym c.datum-item.is ∙ c.in-Text.is) in
    let long : INLINE_BYTES < length c.loop-datum.joined + length c.in-Text.text = more_than (Err c.in_err-append.field-0.0) _ refl c.in_err-append.ensures.small in
    Gives-no_memory _ c.from_residual.result c.from_residual.ensures.0
    (long_text (flat_map bytes_of c.args.operands.now) (omega (arith, c.joined_len.ensures, c.if-joined_len-gt-TEXT_BYTES.false))
    (omega (arith, whole, item, long, ap length c.loop-datum.invariant)))
