-- Which nodes a node runs.
use Rattle.std.specs.Prelude.{ℕ, List, [], ◌∷◌}
use Rattle.plan_rules.specs.declared.node.Node.{Node}
use Rattle.plan_rules.specs.declared.node.Node.TheVariants.{Then, UponError, UponStopped, LetValue, LetError, LetStopped, StartsOn, ContinuesOn, StoppedAsOptional, StoppedAsError, Bulk, WhenAll, Unstoppable, Ahead}

-- the children, which a node runs under its own arguments
abbrev pub run_by : Node → List ℕ
run_by (Then child job) = child ∷ []
run_by (UponError child job) = child ∷ []
run_by (UponStopped child job) = child ∷ []
run_by (LetValue child pick bodies) = child ∷ []
run_by (LetError child pick bodies) = child ∷ []
run_by (LetStopped child pick bodies) = child ∷ []
run_by (StartsOn on child) = child ∷ []
run_by (ContinuesOn child on) = child ∷ []
run_by (StoppedAsOptional child of) = child ∷ []
run_by (StoppedAsError child e) = child ∷ []
run_by (Bulk child job) = child ∷ []
run_by (WhenAll children) = children
run_by (Unstoppable child) = child ∷ []
run_by (Ahead first second) = first ∷ second ∷ []
run_by node = []

-- the bodies of a let, which run under arguments of their own
abbrev pub bodies_of : Node → List ℕ
bodies_of (LetValue child pick bodies) = bodies
bodies_of (LetError child pick bodies) = bodies
bodies_of (LetStopped child pick bodies) = bodies
bodies_of node = []
