-- How a call adds a node: behind the others, and a bulk behind its parts.
use Rattle.std.specs.Prelude.{ℕ, ◌+◌, List, [], ◌∷◌, ◌++◌, length, map}
use Rattle.std.specs.List.{range_with_len}
use Rattle.plan_rules.specs.declared.node.Node.{Node}
use Rattle.plan_rules.specs.declared.node.Node.TheVariants.{Part}
use Rattle.plan_shape.specs.Children.{part_count}

-- the number that the node gets
abbrev pub number_of : List Node → Node → ℕ
number_of nodes node = length nodes + part_count node

-- so many parts of a bulk
abbrev pub parts_of : ℕ → ℕ → List Node
parts_of bulk count = map (λ part. Part bulk part) (range_with_len 0 count)

-- the nodes with this one
abbrev pub with_node : List Node → Node → List Node
with_node nodes node = nodes ++ (parts_of (number_of nodes node) (part_count node) ++ node ∷ [])
