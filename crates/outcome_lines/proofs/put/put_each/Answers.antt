use Rattle.std.proofs.Common.{◌∷◌, get_or, pos, refl, Err, rules, w64, FitsSigned}
use Rattle.std.specs.Fmt.{signed_decimal}
use Rattle.std.proofs.lemmas.Int.{to_z-of_z}
use Rattle.exec_value.specs.Bytes.{comma}
use Rattle.exec_io.proofs.PutsLemmas.{Puts-then, Puts-stop, Puts-item, Puts-item_stop}
use Rattle.outcome_lines.proofs.put.put_each.Goals as goal

pub returns-in_err-put_bytes : goal.returns-in_err-put_bytes
returns-in_err-put_bytes g c =
    Puts-item_stop (λ n. comma ∷ signed_decimal n) c.args.numbers.now c.loop-number.number-index (get_or c.args.numbers.now c.loop-number.number-index (pos 0)) (pos 0) refl c.loop-number-test.true c.from_residual.ensures.0 c.loop-number.invariant (Puts-stop _ refl c.in_err-put_bytes.ensures)

pub returns-in_err-put_int : goal.returns-in_err-put_int
returns-in_err-put_int g c =
    let number = get_or c.args.numbers.now c.loop-number.number-index (pos 0) in
    let fits : FitsSigned w64 number = search rules in
    let put = simp to_z-of_z at c.in_err-put_int.ensures in
    Puts-item_stop (λ n. comma ∷ signed_decimal n) c.args.numbers.now c.loop-number.number-index (get_or c.args.numbers.now c.loop-number.number-index (pos 0)) (pos 0) refl c.loop-number-test.true c.from_residual-in_err-put_int.ensures.0 c.loop-number.invariant (Puts-then {r = Err c.in_err-put_int.field-0.0} c.in_ok-put_bytes.ensures put)

pub loop-number-preserved : goal.loop-number-preserved
loop-number-preserved g c =
    let number = get_or c.args.numbers.now c.loop-number.number-index (pos 0) in
    let fits : FitsSigned w64 number = search rules in
    let put = simp to_z-of_z at c.in_ok-put_int.ensures in
    Puts-item (λ n. comma ∷ signed_decimal n) c.args.numbers.now c.loop-number.number-index (get_or c.args.numbers.now c.loop-number.number-index (pos 0)) (pos 0) refl c.loop-number-test.true c.loop-number.invariant (Puts-then c.in_ok-put_bytes.ensures put)
