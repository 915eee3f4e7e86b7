use Rattle.std.proofs.Common.{rules, tests, ◌≡◌, ◌++◌, Option, Some, None, refl, ◌∙◌}
use Rattle.std.proofs.lemmas.Iterator.{YieldsList-from_slice}
use Rattle.std.proofs.lemmas.Iterator.Consumers.{YieldsList-from_chain, YieldsList-from_copied, YieldsList-at}
use Rattle.std.proofs.lemmas.Iterator.Search.{find_from_yields_List}
use Rattle.std.specs.Option.{option_map}
use Rattle.plan_shape.specs.Refusals.{is_used}
use Rattle.plan_builder.proofs.builder.PlanBuilder.used_child.Goals as goal

option_map-id : {X : Type 0} (o : Option X) → o ≡ option_map (λ x. x) o
option_map-id None = refl
option_map-id (Some x) = refl

pub returns : goal.returns
returns c =
    let both = c.args.front.now ++ c.args.back.now in
    option_map-id c.find.result
    ∙ find_from_yields_List (is_used c.args.self.now both) _ _ c.find.result c.find.ensures.ran
    (YieldsList-from_copied
    (YieldsList-at c.copied.ensures.source
    (YieldsList-from_chain (YieldsList-from_slice c.args.front.now (cc)) (YieldsList-from_slice c.args.back.now (cc))
    c.chain.ensures.first_done c.chain.ensures.second_done)))
    (λ x b q k. search (rules, tests))
