use Rattle.std.proofs.Common.{get_or, sym, ◌∙◌, arith}
use Rattle.std.specs.Char.{is_ascii_digit}
use Rattle.std.proofs.lemmas.Bool.{and_from}
use Rattle.std.proofs.lemmas.Int.Digits.{digits_value_more}
use Rattle.std.proofs.lemmas.List.Folds.{list_all_more}
use Rattle.exec_value.proofs.NumberLemmas.{tens, tens-more, digit_value-byte}
use Rattle.exec_value.proofs.number.short_size.Goals as goal

pub overflow_mul-size : goal.overflow_mul-size
overflow_mul-size c =
    omega (arith, c.loop-byte.invariant.below, tens c.loop-byte.byte-index 17 (omega (arith, c.requires, c.loop-byte-test.true)))

pub overflow_add-size : goal.overflow_add-size
overflow_add-size c =
    let digit = c.if-not-is_ascii_digit.ensures in
    omega (arith, c.loop-byte.invariant.below, c.from.ensures, digit.cases.1, tens c.loop-byte.byte-index 17 (omega (arith, c.requires, c.loop-byte-test.true)))

pub loop-byte-preserved : goal.loop-byte-preserved
loop-byte-preserved c =
    let digits = c.args.digits.now in
    let i = c.loop-byte.byte-index in
    let digit = c.if-not-is_ascii_digit.ensures in
    let value = digit_value-byte (get_or digits i 0) digit.cases.0 digit.cases.1 in
    let more = digits_value_more 10 digits i c.loop-byte-test.true in
    record {
      digits = list_all_more is_ascii_digit digits i 0 c.loop-byte-test.true ∙ and_from _ _ c.loop-byte.invariant.digits (sym digit.value);
      size = omega (arith, more, value, c.loop-byte.invariant.size, c.from.ensures);
      below = omega (arith, tens-more i, c.loop-byte.invariant.below, c.from.ensures, digit.cases.1);
    }

pub returns-clause-below : goal.returns-clause-below
returns-clause-below c =
    omega (arith, c.loop-byte.invariant.below, tens c.loop-byte.byte-index 18 (omega (arith, c.requires, c.loop-byte.auto.byte-index-end)))
