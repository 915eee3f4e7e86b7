-- Which nodes this crate steps.
use Rattle.std.specs.Prelude.{⊤, Option, Some, None}
use Rattle.plan_rules.specs.declared.node.Node.{Node}
use Rattle.plan_rules.specs.declared.node.Node.TheVariants.{Ahead}

-- the node is an `ahead`
abbrev pub IsAhead : Option Node → Type 0
IsAhead None = ⊥
IsAhead (Some (Ahead first second)) = ⊤
IsAhead (Some node) = ⊥
