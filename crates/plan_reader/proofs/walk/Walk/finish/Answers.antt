use Rattle.std.proofs.Common.{◌≡◌, false, Ok, Err, refl, sym, ap, ◌∙◌, subst, arith}
use Rattle.plan_parts.specs.declared.reading.Reading.TheVariants.{Good}
use Rattle.plan_parts.specs.Reading.{any_fault}
use Rattle.plan_reader.specs.Roots.{HasOneRoot}
use Rattle.plan_reader.specs.Walked.{Walked}
use Rattle.plan_reader.specs.Plans.{joined}
use Rattle.plan_reader.specs.declared.fault.PlanFault.TheVariants.{Limit}
use Rattle.plan_reader.specs.contracts.walk.Walk.{the_view}
use Rattle.plan_reader.proofs.FinishLemmas.{joined-plan, joined-refused}
use Rattle.plan_reader.proofs.walk.Walk.finish.Goals as goal

pub returns-in-Ok-clause-ok : goal.returns-in-Ok-clause-ok
returns-in-Ok-clause-ok c =
    let is : any_fault c.self.inside.faults ≡ false = grind arith in
    let Q : Walked → Type 0 = λ w. HasOneRoot w c.args.settings in
    let one = subst Q (sym c.self.view_is) c.requires.roots in
    let P : Walked → Type 0 = λ w. joined (Good c.args.settings) w
    ≡ Ok (record { plan = c.in-Ok.plan; elements = c.self.inside.elements }) in
    subst P c.self.view_is
    (joined-plan c.args.settings (the_view c.self.inside) c.self.inside.last (Ok c.in-Ok.plan) c.in-Ok.plan
    is one c.self.invariant c.in-Ok.ensures refl)

pub returns-in-Err-clause-err : goal.returns-in-Err-clause-err
returns-in-Err-clause-err c other =
    let is : any_fault c.self.inside.faults ≡ false = grind arith in
    let Q : Walked → Type 0 = λ w. HasOneRoot w c.args.settings in
    let one = subst Q (sym c.self.view_is) c.requires.roots in
    let P : Walked → Type 0 = λ w. joined (Good c.args.settings) w ≡ Err Limit in
    subst P c.self.view_is
    (joined-refused c.args.settings (the_view c.self.inside) c.self.inside.last (Err c.in-Err.fault) c.in-Err.fault
    is one c.self.invariant c.in-Err.ensures refl (λ memory. other (c.finish_fault.ensures.memory.1 memory)))
    ∙ ap Err (sym (c.finish_fault.ensures.other other))
