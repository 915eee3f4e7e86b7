use Rattle.std.proofs.Common.{◌≡◌, [], ◌∷◌, take}
use Rattle.std.specs.List.{flat_map}
use Rattle.life_rules.specs.declared.event.SourceAt.TheVariants.{At}
use Rattle.replay_core.proofs.grounds.all_sources.Given as goal

abbrev pub invariant-loop-place : goal.invariant-loop-place
invariant-loop-place l = l.sources.items ≡ flat_map (λ p. At p ∷ []) (take l.place-index l.places)
