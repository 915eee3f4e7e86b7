-- What holds of the kinds of every plan.
use Rattle.std.specs.Prelude.{◌≡◌, ℕ, ◌<◌, length}
use Rattle.plan_kinds.specs.Shapes.{Shape}
use Rattle.plan_kinds.specs.Reached.{Reaches}
use Rattle.plan_kinds.specs.Built.{IsBuilt}
use Rattle.plan_shape.specs.Blueprint.{Blueprint, IsPlan}

-- the nodes of a plan are as the laws of kinds ask
abbrev pub PlansAreBuilt : Type 0
PlansAreBuilt = (plan : Blueprint) → IsPlan plan → IsBuilt plan.nodes

-- each node of a plan runs under arguments of one shape, and of no other
abbrev pub NodesRunUnderOneShape : Type 0
NodesRunUnderOneShape =
    (plan : Blueprint) → IsPlan plan → (n : ℕ) → n < length plan.nodes →
    (a : Shape) × Reaches plan.nodes plan.settings.input n a
    × ((b : Shape) → Reaches plan.nodes plan.settings.input n b → b ≡ a)
