use Rattle.std.proofs.Common.{◌+◌, ℤ, List, get_or, pos, ap, subst, sym, ◌∙◌, rules, arith, w64, FitsSigned}
use Rattle.std.proofs.lemmas.Int.{to_z-of_z}
use Rattle.exec_value.specs.declared.outcome.Completion.TheVariants.{Error}
use Rattle.exec_job.specs.Fault.{name_of}
use Rattle.plan_rules.specs.Bulks.{each_of, error_at}
use Rattle.exec_bulk.specs.Elements.{MakesEach}
use Rattle.exec_bulk.proofs.Applying.{IsDoneTo, done-more, done-fault, fails-large, makes-fault, makes-none, single}
use Rattle.exec_bulk.proofs.elements.make_each.Goals as goal

pub returns-in-len1 : goal.returns-in-len1
returns-in-len1 g c =
    let job = g.E.Element.job c.args.element.now in
    let numbers = c.args.numbers.now in
    let fits : FitsSigned w64 (get_or numbers 0 (pos 0)) = search rules in
    let made = simp to_z-of_z at c.make_one.ensures in
    subst (λ (l : List ℤ). MakesEach job c.args.first l c.make_one.result)
    (sym (single numbers (pos 0) c.in-len1.len_at_least c.in-len1.len_below)) made

pub returns-in-Err : goal.returns-in-Err
returns-in-Err g c =
    let job = g.E.Element.job c.args.element.now in
    let numbers = c.args.numbers.now in
    let place = c.loop-place.place in
    let fits : FitsSigned w64 (get_or numbers place (pos 0)) = search rules in
    let applied = simp to_z-of_z at (sym c.at.ensures ∙ c.in-Err.is) in
    let fails = done-fault job c.args.first numbers c.loop-place.made.items place (pos 0) c.loop-place.invariant.done
    c.loop-place-test.true c.in-Err.fault applied in
    let name = c.error.ensures ∙ ap (λ (e : List _). Error e) c.in_ok-error_at-in-Err.ensures.exact in
    makes-fault job c.args.first numbers (error_at (name_of c.in-Err.fault) (c.args.first + place)) _ fails name

pub returns-in_err-error_at-in-Err : goal.returns-in_err-error_at-in-Err
returns-in_err-error_at-in-Err g c =
    let job = g.E.Element.job c.args.element.now in
    let numbers = c.args.numbers.now in
    let place = c.loop-place.place in
    let fits : FitsSigned w64 (get_or numbers place (pos 0)) = search rules in
    let applied = simp to_z-of_z at (sym c.at.ensures ∙ c.in-Err.is) in
    let fails = done-fault job c.args.first numbers c.loop-place.made.items place (pos 0) c.loop-place.invariant.done
    c.loop-place-test.true c.in-Err.fault applied in
    let back = c.from_residual in
    makes-none job c.args.first numbers back.result back.ensures.0
    (fails-large (error_at (name_of c.in-Err.fault) (c.args.first + place)) (each_of job c.args.first numbers) fails
    (λ short. let ok = c.in_err-error_at-in-Err.ensures.in_place short in cc))

pub loop-place-preserved : goal.loop-place-preserved
loop-place-preserved g c =
    let job = g.E.Element.job c.args.element.now in
    let numbers = c.args.numbers.now in
    let place = c.loop-place.place in
    let made = c.loop-place.made.items in
    let number = c.in-Ok-at.number in
    let fits : FitsSigned w64 (get_or numbers place (pos 0)) = search rules in
    let made_fits : FitsSigned w64 number = search rules in
    let applied = simp to_z-of_z at (sym c.at.ensures ∙ c.in-Ok-at.is) in
    let pushed = simp to_z-of_z at c.push_reserved.ensures.items in
    let more = done-more job c.args.first numbers made place (pos 0) c.loop-place.invariant.done
    c.loop-place-test.true number applied in
    record {
      done = subst (λ (l : List ℤ). IsDoneTo job c.args.first numbers (place + 1) l) (sym pushed) more;
      count = omega (arith, c.loop-place.invariant.count, c.push_reserved.ensures.len);
      room = omega (arith, c.loop-place.invariant.room, c.push_reserved.ensures.capacity);
    }
