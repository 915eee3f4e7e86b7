use Rattle.std.proofs.Common.{◌≡◌, ◌<◌, ◌==◌, length, map, Err, ap, sym, ◌∙◌, rules, tests, arith}
use Rattle.std.proofs.lemmas.Bool.Decides.{nat_tests}
use Rattle.std.proofs.lemmas.List.{map-append}
use Rattle.std.specs.List.{slice_split}
use Rattle.std.specs.Option.{option_and_then}
use Rattle.std.proofs.lemmas.Iterator.Consumers.{YieldsList-so_far, YieldsList-turn, YieldsList-end}
use Rattle.std.proofs.lemmas.Iterator.Splits.{YieldsList-from_slice_split}
use Rattle.std.proofs.lemmas.Result.{err_from_is_err_and}
use Rattle.exec_value.specs.Bytes.{comma}
use Rattle.exec_value.specs.Record.{ints_of, within_row}
use Rattle.exec_value.specs.declared.fault.RecordFault.TheVariants.{Bad}
use Rattle.exec_value.proofs.RowLemmas.{ints_of-push, ints_of-stop, within_row-few, comma_parts-some}
use Rattle.exec_value.proofs.record.read_numbers.Goals as goal

pub returns-in_err-push_number-clause-bad : goal.returns-in_err-push_number-clause-bad
returns-in_err-push_number-clause-bad c =
    let inner = c.args.inner.now in
    let some : 0 < length inner = grind (arith, nat_tests) in
    let so_far = YieldsList-so_far (YieldsList-from_slice_split {s = c.into_iter-part-iterator.result} _ (λ b. b == comma) inner (cc) (cc) (cc) (λ x r q k. search (rules, tests))) c.loop-part.yielded _ c.loop-part.yielded_by in
    let turn = YieldsList-turn (YieldsList-from_slice_split {s = c.into_iter-part-iterator.result} _ (λ b. b == comma) inner (cc) (cc) (cc) (λ x r q k. search (rules, tests))) c.loop-part.yielded _ c.loop-part.yielded_by _ _ c.in-Some.part c.in-Some.is c.next.ensures.steps in
    let p = err_from_is_err_and c.from_residual.result c.from_residual.ensures.1 in
    λ bad.
    let fault : c.in_err-push_number.field-0.0 ≡ Bad = cc (p.1, p.2) in
    let stop = c.in_err-push_number.ensures.bad (ap (λ e. Err e) fault) in
    ap (λ parts. option_and_then within_row (ints_of parts)) (comma_parts-some inner some)
    ∙ ints_of-stop (slice_split (λ b. b == comma) inner) (length c.loop-part.yielded) c.in-Some.part.now c.loop-part.numbers.items (ap ints_of (sym so_far) ∙ c.loop-part.invariant.so_far) turn.0 turn.1 stop

pub loop-part-preserved : goal.loop-part-preserved
loop-part-preserved c =
    let p = ints_of-push (map (λ part. part.now) c.loop-part.yielded) c.in-Some.part.now c.loop-part.numbers.items c.push_number.new.numbers.items c.loop-part.invariant.so_far c.in_ok-push_number.ensures.ok in
    record { so_far = ap ints_of (map-append _ c.loop-part.yielded _) ∙ p.0; few = p.1 }

pub returns-clause-ok : goal.returns-clause-ok
returns-clause-ok c =
    let inner = c.args.inner.now in
    let some : 0 < length inner = grind (arith, nat_tests) in
    let all = YieldsList-end (YieldsList-from_slice_split {s = c.into_iter-part-iterator.result} _ (λ b. b == comma) inner (cc) (cc) (cc) (λ x r q k. search (rules, tests))) c.loop-part.yielded _ c.loop-part.yielded_by _ _ c.in-None.is c.next.ensures.steps in
    ap (λ parts. option_and_then within_row (ints_of parts)) (comma_parts-some inner some ∙ sym all.0)
    ∙ ap (option_and_then within_row) c.loop-part.invariant.so_far
    ∙ within_row-few c.loop-part.numbers.items c.loop-part.invariant.few
