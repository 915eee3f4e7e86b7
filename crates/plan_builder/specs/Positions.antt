-- Where the nodes of a builder stand, as it keeps it beside them.
use Rattle.std.specs.Prelude.{◌≡◌, ℕ, ◌+◌, ◌<◌, List, length, nat_eq, get_or, Some, None, if◌then◌else◌}
use Rattle.std.specs.List.{list_any}
use Rattle.plan_rules.specs.declared.node.Node.{Node}
use Rattle.plan_builder.specs.declared.position.Position.{Position}
use Rattle.plan_shape.specs.Parents.{parent_of}
use Rattle.plan_shape.specs.Depths.{depth_of}
use Rattle.plan_shape.specs.Forest.{IsForest}

-- where node n stands
abbrev pub position_of : List Node → ℕ → Position
position_of nodes n = record { parent = parent_of nodes n; depth = depth_of nodes n }

-- the nodes are a forest, and the table tells where each stands
pub record IsForestWith (nodes : List Node) (positions : List Position) : Type 0 where
  pub forest : IsForest nodes
  pub as_long : length positions ≡ length nodes
  pub told : (n : ℕ) (d : Position) → n < length nodes → get_or positions n d ≡ position_of nodes n

-- the position of a node that gets a parent if it is one of these children
abbrev pub adopted : List ℕ → ℕ → ℕ → Position → Position
adopted children parent n position =
    if list_any (nat_eq n) children then record position { parent = Some parent } else position

-- the position of a part of a bulk
abbrev pub part_position : ℕ → Position
part_position bulk = record { parent = Some bulk; depth = 1 }

-- the position of a node that has no parent yet
abbrev pub free_position : ℕ → Position
free_position depth = record { parent = None; depth = depth }

-- these children get this parent, and all else stays
pub record Adopts (old new : List Position) (children : List ℕ) (parent : ℕ) : Type 0 where
  pub as_long : length new ≡ length old
  pub each : (n : ℕ) (d : Position) → n < length old →
      get_or new n d ≡ adopted children parent n (get_or old n d)

-- the same, and behind them the positions of so many parts and then of the parent
pub record Gains (old new : List Position) (children : List ℕ)
    (parent parts depth : ℕ) : Type 0 where
  pub as_long : length new ≡ length old + parts + 1
  pub before : (n : ℕ) (d : Position) → n < length old →
      get_or new n d ≡ adopted children parent n (get_or old n d)
  pub part : (i : ℕ) (d : Position) → i < parts →
      get_or new (length old + i) d ≡ part_position parent
  pub last : (d : Position) → get_or new (length old + parts) d ≡ free_position depth
