use Rattle.std.proofs.Common.{◌+◌, ◌≤◌, [], ◌∷◌, ◌++◌, length, get_or, pos, Err, refl, sym, ◌∙◌, rules, arith, w64, FitsSigned}
use Rattle.std.proofs.lemmas.Int.{to_z-of_z}
use Rattle.exec_job.specs.Fault.{name_of}
use Rattle.plan_rules.specs.Bulks.{each_of, error_at}
use Rattle.exec_bulk.proofs.Applying.{done-more, done-fault, fails-large, none-fails, makes-none}
use Rattle.exec_bulk.proofs.elements.fail_first.Goals as goal

pub returns-in_err-error_at-in-Err : goal.returns-in_err-error_at-in-Err
returns-in_err-error_at-in-Err g c =
    let job = g.E.Element.job c.args.element.now in
    let numbers = c.args.numbers.now in
    let place = c.loop-place.place in
    let fits : FitsSigned w64 (get_or numbers place (pos 0)) = search rules in
    let applied = simp to_z-of_z at (sym c.at.ensures ∙ c.in-Err.is) in
    let fails = done-fault job c.args.first numbers c.loop-place.invariant.0 place (pos 0) c.loop-place.invariant.1
    c.loop-place-test.true c.in-Err.fault applied in
    let back = c.from_residual in
    makes-none job c.args.first numbers back.result back.ensures.0
    (fails-large (error_at (name_of c.in-Err.fault) (c.args.first + place)) (each_of job c.args.first numbers) fails
    (λ short. let ok = c.in_err-error_at-in-Err.ensures.in_place short in cc))

pub loop-place-preserved : goal.loop-place-preserved
loop-place-preserved g c =
    let job = g.E.Element.job c.args.element.now in
    let numbers = c.args.numbers.now in
    let place = c.loop-place.place in
    let made = c.loop-place.invariant.0 in
    let fits : FitsSigned w64 (get_or numbers place (pos 0)) = search rules in
    let made_fits : FitsSigned w64 c.in-Ok.field-0 = search rules in
    let applied = simp to_z-of_z at (sym c.at.ensures ∙ c.in-Ok.is) in (
      made ++ c.in-Ok.field-0 ∷ [],
      done-more job c.args.first numbers made place (pos 0) c.loop-place.invariant.1
          c.loop-place-test.true c.in-Ok.field-0 applied,
    )

pub returns : goal.returns
returns g c =
    let job = g.E.Element.job c.args.element.now in
    let numbers = c.args.numbers.now in
    let all : length numbers ≤ c.loop-place.place = omega (arith, c.loop-place-test.false) in
    makes-none job c.args.first numbers (Err _) refl
    (none-fails job c.args.first numbers c.loop-place.invariant.0 c.loop-place.place c.loop-place.invariant.1 all)
