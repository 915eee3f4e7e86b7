-- The children of a node.
use Rattle.std.specs.Prelude.{ℕ, ◌-◌, List, [], ◌++◌, slice_get}
use Rattle.std.specs.Option.{option_map_or}
use Rattle.std.specs.List.{range_with_len}
use Rattle.plan_rules.specs.declared.node.Node.{Node}
use Rattle.plan_rules.specs.Children.{named_by}
use Rattle.plan_rules.specs.declared.node.Node.TheVariants.{Bulk}
use Rattle.plan_shape.specs.declared.limits.TheConstants.{BULK_PARTS}

-- how many parts a node has
abbrev pub part_count : Node → ℕ
part_count (Bulk child job) = BULK_PARTS
part_count node = 0

-- the children of node n, in order: those that it names, and its parts, which stand just before it
abbrev pub children_of : ℕ → Node → List ℕ
children_of n node = named_by node ++ range_with_len (n - part_count node) (part_count node)

-- the same by its number
abbrev pub children_at : List Node → ℕ → List ℕ
children_at nodes n = option_map_or (children_of n) (slice_get nodes n) []
