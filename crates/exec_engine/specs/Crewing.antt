-- Who serves the pool in a run.
use Rattle.std.specs.Prelude.{ℕ, Bool, true, false, if◌then◌else◌}
use Rattle.std.specs.List.{list_any}
use Rattle.node_tree.specs.declared.context.Context.{Context}
use Rattle.node_tree.specs.declared.context.Context.TheVariants.{Pool}
use Rattle.plan_rules.specs.declared.node.Node.{Node}
use Rattle.plan_rules.specs.declared.node.Node.TheVariants.{Schedule, StartsOn, ContinuesOn, Part}
use Rattle.plan_shape.specs.Blueprint.{Blueprint}

abbrev pub is_pool : Context → Bool
is_pool Pool = true
is_pool _ = false

-- the node is taken in the pool: it is a hop into it, or a part of a bulk
abbrev pub goes_to_pool : Node → Bool
goes_to_pool (Schedule on) = is_pool on
goes_to_pool (StartsOn on child) = is_pool on
goes_to_pool (ContinuesOn child on) = is_pool on
goes_to_pool (Part bulk part) = true
goes_to_pool _ = false

-- how many workers serve it: none where no node is taken there
abbrev pub workers_for : Blueprint → ℕ → ℕ
workers_for plan workers = if list_any goes_to_pool plan.nodes then workers else 0
