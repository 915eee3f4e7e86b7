use Rattle.std.proofs.Common.{ℕ, List, rules, refl, ap, subst, ◌∙◌}
use Rattle.plan_notation.specs.Reading.{TextRead}
use Rattle.plan_reader.specs.PlanFile.{IsFaultOf, IsPlanOf}
use Rattle.notation_answers.proofs.answer.judged.Goals as goal

pub told-requires-clause-is : goal.told-requires-clause-is
told-requires-clause-is c =
    subst (λ (bytes : List ℕ). IsFaultOf bytes c.in-Err.fault)
    (c.deref.ensures.value ∙ ap (λ (r : TextRead). r.json) c.read.view_is) (search rules)

pub returns-in-Ok-clause-ok : goal.returns-in-Ok-clause-ok
returns-in-Ok-clause-ok c =
    subst (λ (bytes : List ℕ). IsPlanOf bytes c.in-Ok.plan)
    (c.deref.ensures.value ∙ ap (λ (r : TextRead). r.json) c.read.view_is)
    ((c.in-Ok.ensures.plan c.in-Ok.plan).0 refl).0
