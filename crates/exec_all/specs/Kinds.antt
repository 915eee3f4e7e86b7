-- Which nodes this crate steps.
use Rattle.std.specs.Prelude.{⊤, Option, Some}
use Rattle.plan_rules.specs.declared.node.Node.{Node}
use Rattle.plan_rules.specs.declared.node.Node.TheVariants.{WhenAll}

-- the node is a `when_all`
abbrev pub IsAll : Option Node → Type 0
IsAll (Some (WhenAll children)) = ⊤
IsAll other = ⊥
