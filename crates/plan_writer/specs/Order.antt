-- In which order a plan file numbers its nodes.
use Rattle.std.specs.Prelude.{◌≡◌, ℕ, ◌-◌, List, [], ◌∷◌, ◌++◌, length, slice_get, Some}
use Rattle.std.specs.List.{flat_map, range_with_len}
use Rattle.plan_rules.specs.declared.node.Node.{Node}
use Rattle.plan_rules.specs.Tables.{table}
use Rattle.plan_shape.specs.Children.{children_at}
use Rattle.plan_shape.specs.Conditions.{MeetsConditions}

-- a node that stands in a plan file as an object of its own: not a part of a bulk
abbrev pub IsWritten : List Node → ℕ → Type 0
IsWritten nodes n = (node : Node) × (slice_get nodes n ≡ Some node) × MeetsConditions node

-- the order of a file: a node's children, each with all that stands below it, and then the node;
-- the parts of a bulk are its last children
abbrev pub file_order : List Node → ℕ → List ℕ
file_order nodes n =
    table [] (λ m order. flat_map order (children_at nodes m) ++ m ∷ []) (length nodes) n

-- the nodes, of which the last is the root, are numbered in that order
abbrev pub IsInFileOrder : List Node → Type 0
IsInFileOrder nodes = file_order nodes (length nodes - 1) ≡ range_with_len 0 (length nodes)
