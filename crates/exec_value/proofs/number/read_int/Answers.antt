use Rattle.std.proofs.Common.{◌≡◌, ◌<◌, Bool, ℤ, Some, length, ap, sym, ◌∙◌, w64, arith, to_z, of_z}
use Rattle.std.proofs.lemmas.Bool.Decides.{nat_tests}
use Rattle.std.proofs.lemmas.Int.{to_z-of_z}
use Rattle.exec_value.specs.Number.{signed}
use Rattle.exec_value.proofs.NumberLemmas.{int_of-few, int_of-no_digits}
use Rattle.exec_value.proofs.number.read_int.Goals as goal

pub returns-in-Some : goal.returns-in-Some
returns-in-Some c =
    let digits = c.without_minus-digits.ensures in
    let some : 0 < length c.without_minus-digits.result.now = grind (arith, nat_tests) in
    let few = int_of-few c.args.line.now c.in-Some.size (omega (arith, some, ap length digits)) (omega (arith, c.if-digits-gt-SHORT_DIGITS.false, ap length digits)) (rw (← digits) (sym c.short_size.ensures.value ∙ c.in-Some.is)) in
    let same : to_z w64 (of_z w64 c.signed.result) ≡ c.signed.result = grind (arith, to_z-of_z) in
    ap (λ (z : ℤ). Some z) (same ∙ c.signed.ensures ∙ ap (λ (m : Bool). signed m c.in-Some.size) c.starts_with_minus.ensures) ∙ sym few

pub returns-in-None : goal.returns-in-None
returns-in-None c = sym (int_of-no_digits c.args.line.now (rw (← c.without_minus-digits.ensures) (sym c.short_size.ensures.value ∙ c.in-None.is)))
