-- The nodes above a node.
use Rattle.std.specs.Prelude.{ℕ, zero, suc, List, [], ◌∷◌, length}
use Rattle.std.specs.Option.{option_map_or}
use Rattle.plan_rules.specs.declared.node.Node.{Node}
use Rattle.plan_shape.specs.Parents.{parent_of}

-- the way up from node n, of at most so many steps
unfoldable pub way_up : List Node → ℕ → ℕ → List ℕ
way_up nodes zero n = []
way_up nodes (suc steps) n = option_map_or (λ m. m ∷ way_up nodes steps m) (parent_of nodes n) []

-- the parent of node n, its parent's parent and so on
abbrev pub ancestors : List Node → ℕ → List ℕ
ancestors nodes n = way_up nodes (length nodes) n
