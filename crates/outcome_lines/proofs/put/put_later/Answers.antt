use Rattle.std.proofs.Common.{◌∷◌, arith}
use Rattle.std.specs.Fmt.{signed_decimal}
use Rattle.std.proofs.lemmas.List.{take_all}
use Rattle.exec_value.specs.Bytes.{comma}
use Rattle.exec_io.proofs.PutsLemmas.{Puts-front_stop}
use Rattle.outcome_lines.proofs.PieceLemmas.{Puts-part}
use Rattle.outcome_lines.proofs.put.put_later.Goals as goal

pub returns-in_err-put_together : goal.returns-in_err-put_together
returns-in_err-put_together g c =
    let done = c.loop-done.done in
    let end = c.min-end.result in
    let part = Puts-part (λ n. comma ∷ signed_decimal n) c.args.numbers.now done end (omega (arith, c.min-end.ensures, c.loop-done-test.true)) c.loop-done.invariant.put c.in_err-put_together.ensures in
    Puts-front_stop (λ n. comma ∷ signed_decimal n) c.args.numbers.now end c.from_residual.ensures.0 part

pub loop-done-preserved : goal.loop-done-preserved
loop-done-preserved g c =
    let done = c.loop-done.done in
    let end = c.min-end.result in
    record {
      within = omega (arith, c.min-end.ensures);
      put = Puts-part (λ n. comma ∷ signed_decimal n) c.args.numbers.now done end (omega (arith, c.min-end.ensures, c.loop-done-test.true)) c.loop-done.invariant.put c.in_ok-put_together.ensures;
    }

pub returns : goal.returns
returns g c = rw (take_all c.loop-done.done c.args.numbers.now (omega (arith, c.loop-done-test.false))) at c.loop-done.invariant.put
