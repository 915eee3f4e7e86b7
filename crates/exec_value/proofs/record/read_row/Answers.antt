use Rattle.std.proofs.Common.{◌≡◌, Err, ap, refl}
use Rattle.std.proofs.lemmas.Result.{err_from_is_err_and}
use Rattle.exec_value.specs.Record.{row_of}
use Rattle.exec_value.specs.declared.fault.RecordFault.TheVariants.{Bad}
use Rattle.exec_value.proofs.record.read_row.Goals as goal

pub returns-in_err-read_numbers-in-Some-clause-bad : goal.returns-in_err-read_numbers-in-Some-clause-bad
unfolding row_of
returns-in_err-read_numbers-in-Some-clause-bad c =
    let p = err_from_is_err_and c.from_residual.result c.from_residual.ensures.1 in
    λ bad.
    let fault : c.in_err-read_numbers-in-Some.field-0.0 ≡ Bad = cc (p.1, p.2) in
    rw (← c.in-Some.ensures) (c.in_err-read_numbers-in-Some.ensures.bad (ap (λ e. Err e) fault))

pub returns-in_ok-from_vec-in-Some-clause-ok : goal.returns-in_ok-from_vec-in-Some-clause-ok
unfolding row_of
returns-in_ok-from_vec-in-Some-clause-ok c =
    rw (← c.in-Some.ensures, c.in_ok-from_vec-in-Some.ensures.ok) c.in_ok-read_numbers-in-Some.ensures.ok

pub returns-in-None-clause-bad : goal.returns-in-None-clause-bad
unfolding row_of
returns-in-None-clause-bad c = λ bad. rw (← c.in-None.ensures) refl
