use Rattle.std.proofs.Common.{◌≡◌, None, map, drop}
use Rattle.plan_kinds.specs.Shapes.{common}
use Rattle.plan_reasons.specs.Kinds.{value_at}
use Rattle.plan_reasons.proofs.kinds.Signed.joint.Given as goal

abbrev pub invariant-loop-index : goal.invariant-loop-index
invariant-loop-index l =
    (l.front ≡ None) × (common (map (value_at l.self.sigs.now) l.bodies)
    ≡ common (map (value_at l.self.sigs.now) (drop l.index l.bodies)))
