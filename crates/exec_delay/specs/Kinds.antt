-- Which nodes this crate steps.
use Rattle.std.specs.Prelude.{⊤, Option, Some}
use Rattle.plan_rules.specs.declared.node.Node.{Node}
use Rattle.plan_rules.specs.declared.node.Node.TheVariants.{Delay}

-- the node is a `delay`
abbrev pub IsDelay : Option Node → Type 0
IsDelay (Some (Delay turns)) = ⊤
IsDelay other = ⊥
