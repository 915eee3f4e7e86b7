use Rattle.std.proofs.Common.{[], ◌∷◌, ◌++◌, List, refl, ap, ◌∙◌, arith}
use Rattle.std.specs.List.{flat_map}
use Rattle.std.proofs.lemmas.List.{take_all}
use Rattle.life_rules.specs.declared.event.SourceAt.{SourceAt}
use Rattle.life_rules.specs.declared.event.SourceAt.TheVariants.{Scope, At}
use Rattle.replay_core.proofs.Kept.{grown, flat_map_next}
use Rattle.replay_core.proofs.grounds.all_sources.Goals as goal

pub loop-place-preserved : goal.loop-place-preserved
loop-place-preserved c =
    grown [] _ _ _ _ _ c.loop-place.invariant c.in_ok-push.ensures.items
    (flat_map_next (λ p. At p ∷ []) c.args.places.now c.loop-place.place-index _ _ c.loop-place-test.true refl)

pub returns : goal.returns
returns c =
    c.in_ok-push-2.ensures.items
    ∙ ap (λ (l : List SourceAt). l ++ Scope ∷ [])
    (c.loop-place.invariant ∙ ap (flat_map (λ p. At p ∷ [])) (take_all c.loop-place.place-index c.args.places.now (omega (arith, c.loop-place-test.false))))
