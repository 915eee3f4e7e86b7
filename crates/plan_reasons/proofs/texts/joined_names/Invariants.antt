use Rattle.std.proofs.Common.{◌≡◌, map, take}
use Rattle.plan_reasons.specs.Texts.{shown_kind}
use Rattle.plan_reasons.proofs.texts.joined_names.Given as goal

abbrev pub invariant-loop-kind : goal.invariant-loop-kind
invariant-loop-kind l = map (λ name. name.now) l.names.items ≡ map shown_kind (take l.kind-index l.kinds)
