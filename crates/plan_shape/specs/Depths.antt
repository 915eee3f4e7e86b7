-- How deep a node reaches.
use Rattle.std.specs.Prelude.{ℕ, ◌+◌, max, List, length, map, fold}
use Rattle.plan_rules.specs.declared.node.Node.{Node}
use Rattle.plan_rules.specs.Tables.{table}
use Rattle.plan_shape.specs.Children.{children_at}

-- one node more than the longest of the paths from these children down
abbrev pub depth_over : (ℕ → ℕ) → List ℕ → ℕ
depth_over below children = 1 + fold max 0 (map below children)

-- the number of nodes on the longest path from node n down to a leaf
abbrev pub depth_of : List Node → ℕ → ℕ
depth_of nodes n = table 0 (λ m below. depth_over below (children_at nodes m)) (length nodes) n
