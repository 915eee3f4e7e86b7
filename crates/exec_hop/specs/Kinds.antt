-- Which nodes this crate steps.
use Rattle.std.specs.Prelude.{⊤, Option, Some}
use Rattle.plan_rules.specs.declared.node.Node.{Node}
use Rattle.plan_rules.specs.declared.node.Node.TheVariants.{Schedule, StartsOn, ContinuesOn, Unstoppable}

abbrev pub IsHop : Option Node → Type 0
IsHop (Some (Schedule on)) = ⊤
IsHop _ = ⊥

abbrev pub IsStartsOn : Option Node → Type 0
IsStartsOn (Some (StartsOn on child)) = ⊤
IsStartsOn _ = ⊥

abbrev pub IsContinuesOn : Option Node → Type 0
IsContinuesOn (Some (ContinuesOn child on)) = ⊤
IsContinuesOn _ = ⊥

abbrev pub IsUnstoppable : Option Node → Type 0
IsUnstoppable (Some (Unstoppable child)) = ⊤
IsUnstoppable _ = ⊥
