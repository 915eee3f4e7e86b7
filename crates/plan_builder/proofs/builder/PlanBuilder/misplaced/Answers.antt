use Rattle.std.proofs.Common.{◌≡◌, ℕ, Bool, true, false, rules, tests, ap, ◌∙◌}
use Rattle.std.proofs.lemmas.Iterator.{first_from_Range}
use Rattle.plan_shape.specs.Finish.{is_misplaced}
use Rattle.plan_shape.specs.Least.{least}
use Rattle.plan_shape.proofs.LeastLemmas.{least-searched}
use Rattle.plan_builder.proofs.builder.PlanBuilder.misplaced.Goals as goal

pub returns : goal.returns
returns c =
    let test : ℕ → Bool = is_misplaced c.args.self.now in
    least-searched test c.size.result c.find.result
    (first_from_Range _ _ _ c.find.result (λ k. test k ≡ true) (λ k. test k ≡ false) c.find.ensures.ran
    (λ x q k. search (rules, tests)) (λ x q k. search (rules, tests)))
    ∙ ap (least test) c.size.ensures
