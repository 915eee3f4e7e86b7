-- The parent of a node.
use Rattle.std.specs.Prelude.{ℕ, Bool, ◌&&◌, List, length, nat_eq, nat_lt, Option, is_none}
use Rattle.std.specs.List.{list_any}
use Rattle.plan_rules.specs.declared.node.Node.{Node}
use Rattle.plan_shape.specs.Children.{children_at}
use Rattle.plan_shape.specs.Least.{least}

-- n is a child of m
abbrev pub is_child : List Node → ℕ → ℕ → Bool
is_child nodes n m = list_any (nat_eq n) (children_at nodes m)

-- the node that n is a child of, if there is one yet
abbrev pub parent_of : List Node → ℕ → Option ℕ
parent_of nodes n = least (is_child nodes n) (length nodes)

-- n is a node that has no parent yet
abbrev pub is_free : List Node → ℕ → Bool
is_free nodes n = nat_lt n (length nodes) && is_none (parent_of nodes n)
