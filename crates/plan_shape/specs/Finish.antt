-- Which nodes make no plan, and why.
use Rattle.std.specs.Prelude.{ℕ, Bool, true, false, not, ◌&&◌, ◌==◌, List, length, slice_get, nat_lt, Option}
use Rattle.std.specs.Option.{option_or, option_map, option_map_or}
use Rattle.std.specs.List.{list_any}
use Rattle.plan_rules.specs.declared.node.Node.{Node}
use Rattle.plan_rules.specs.declared.node.Node.TheVariants.{WhenAll, Unstoppable, Ahead}
use Rattle.plan_rules.specs.declared.settings.Settings.{Settings}
use Rattle.plan_shape.specs.declared.fault.BuildFault.{BuildFault}
use Rattle.plan_shape.specs.declared.fault.BuildFault.TheVariants.{UsedChild, TooManyNodes, Loose, Version, Misplaced}
use Rattle.plan_shape.specs.declared.limits.TheConstants.{MOST_FIRST_VERSION_NODES}
use Rattle.plan_shape.specs.Least.{least}
use Rattle.plan_shape.specs.Parents.{is_free}
use Rattle.plan_shape.specs.Ancestors.{ancestors}
use Rattle.plan_shape.specs.Refusals.{fault_if}

-- node n passes a test
abbrev pub passes : (Node → Bool) → List Node → ℕ → Bool
passes test nodes n = option_map_or test (slice_get nodes n) false

abbrev pub is_ahead : Node → Bool
is_ahead (Ahead first second) = true
is_ahead node = false

-- only plans of version 2 have the node
abbrev pub is_of_version_2 : Node → Bool
is_of_version_2 (Unstoppable child) = true
is_of_version_2 (Ahead first second) = true
is_of_version_2 node = false

-- no `ahead` may stand below the node
abbrev pub bars_aheads : Node → Bool
bars_aheads (WhenAll children) = true
bars_aheads (Unstoppable child) = true
bars_aheads (Ahead first second) = true
bars_aheads node = false

-- node n has no parent and isn't the root
abbrev pub is_loose : List Node → ℕ → ℕ → Bool
is_loose nodes root n = is_free nodes n && not (n == root)

-- node n is an `ahead` below a `when_all`, an `unstoppable` or another `ahead`
abbrev pub is_misplaced : List Node → ℕ → Bool
is_misplaced nodes n =
    passes is_ahead nodes n && list_any (passes bars_aheads nodes) (ancestors nodes n)

-- node n can't stand in a plan with these settings
abbrev pub is_too_new : Settings → List Node → ℕ → Bool
is_too_new settings nodes n = settings.version == 1 && passes is_of_version_2 nodes n

-- a plan with these settings can't have so many nodes
abbrev pub is_too_large : Settings → List Node → Bool
is_too_large settings nodes =
    settings.version == 1 && nat_lt MOST_FIRST_VERSION_NODES (length nodes)

-- why the nodes make no plan with this root and these settings: the first cause that holds
abbrev pub finish_fault : List Node → ℕ → Settings → Option BuildFault
finish_fault nodes root settings =
    option_or (fault_if (not (is_free nodes root)) (UsedChild root))
    (option_or (fault_if (is_too_large settings nodes) TooManyNodes)
    (option_or (option_map Loose (least (is_loose nodes root) (length nodes)))
    (option_or (option_map Version (least (is_too_new settings nodes) (length nodes)))
    (option_map Misplaced (least (is_misplaced nodes) (length nodes))))))
