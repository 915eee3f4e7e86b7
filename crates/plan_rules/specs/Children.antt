-- The nodes that stand right below a node.
use Rattle.std.specs.Prelude.{ℕ, List, [], ◌∷◌}
use Rattle.plan_rules.specs.declared.node.Node.{Node}
use Rattle.plan_rules.specs.declared.node.Node.TheVariants.{Then, UponError, UponStopped, LetValue, LetError, LetStopped, StartsOn, ContinuesOn, StoppedAsOptional, StoppedAsError, Bulk, WhenAll, Unstoppable, Ahead}

-- the nodes that a node may run, in order; a part runs none, though it names its bulk
abbrev pub named_by : Node → List ℕ
named_by (Then child job) = child ∷ []
named_by (UponError child job) = child ∷ []
named_by (UponStopped child job) = child ∷ []
named_by (LetValue child pick bodies) = child ∷ bodies
named_by (LetError child pick bodies) = child ∷ bodies
named_by (LetStopped child pick bodies) = child ∷ bodies
named_by (StartsOn on child) = child ∷ []
named_by (ContinuesOn child on) = child ∷ []
named_by (StoppedAsOptional child of) = child ∷ []
named_by (StoppedAsError child e) = child ∷ []
named_by (Bulk child job) = child ∷ []
named_by (WhenAll children) = children
named_by (Unstoppable child) = child ∷ []
named_by (Ahead first second) = first ∷ second ∷ []
named_by _ = []
