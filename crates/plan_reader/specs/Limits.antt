-- The limits on the nodes of a plan file.
use Rattle.std.specs.Prelude.{◌+◌, not, List, length, nat_lt, Option}
use Rattle.std.specs.Option.{option_map, option_or}
use Rattle.plan_rules.specs.Children.{named_by}
use Rattle.plan_rules.specs.declared.node.Node.{Node}
use Rattle.plan_rules.specs.declared.settings.Settings.{Settings}
use Rattle.plan_shape.specs.declared.fault.BuildFault.{BuildFault}
use Rattle.plan_shape.specs.declared.fault.BuildFault.TheVariants.{Misplaced, TooDeep, TooManyChildren, TooManyNodes}
use Rattle.plan_shape.specs.declared.limits.TheConstants.{MOST_DEPTH, MOST_PLAN_NODES}
use Rattle.plan_shape.specs.Children.{part_count}
use Rattle.plan_shape.specs.Conditions.{has_lawful_count}
use Rattle.plan_shape.specs.Depths.{depth_of, depth_over}
use Rattle.plan_shape.specs.Finish.{is_misplaced, is_too_large}
use Rattle.plan_shape.specs.Least.{least}
use Rattle.plan_shape.specs.Refusals.{fault_if}

-- the limit that a node passes beside these, if it passes one: its number of children or bodies,
-- the number of nodes with it and its parts, or its depth
abbrev pub node_limit : List Node → Node → Option BuildFault
node_limit nodes node =
    option_or (fault_if (not (has_lawful_count node)) TooManyChildren)
    (option_or (fault_if (nat_lt MOST_PLAN_NODES (length nodes + part_count node + 1)) TooManyNodes)
    (fault_if (nat_lt MOST_DEPTH (depth_over (depth_of nodes) (named_by node))) TooDeep))

-- the limit that a plan of these nodes passes, if it passes one: the number of nodes of its
-- version, or an `ahead` stands where none may
abbrev pub plan_limit : List Node → Settings → Option BuildFault
plan_limit nodes settings =
    option_or (fault_if (is_too_large settings nodes) TooManyNodes)
    (option_map Misplaced (least (is_misplaced nodes) (length nodes)))
