use Rattle.std.proofs.Common.{◌≡◌, None, sym, ◌∙◌, arith, rules}
use Rattle.trace_text.proofs.WordLaws.{number_in-stop, number_in-all}
use Rattle.trace_text.proofs.words.read_number.Goals as goal

pub returns-in_err-number : goal.returns-in_err-number
returns-in_err-number c =
    let none : c.from_residual.result ≡ None = search rules in
    none
    ∙ number_in-stop c.loop-byte.number c.args.bytes.now c.loop-byte.byte-index c.loop-byte-test.true c.loop-byte.invariant
    (sym c.with_digit.ensures ∙ c.in_err-number.was)

pub returns : goal.returns
returns c =
    number_in-all c.loop-byte.number c.args.bytes.now c.loop-byte.byte-index (omega (arith, c.loop-byte-test.false)) c.loop-byte.invariant
