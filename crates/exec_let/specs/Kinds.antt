-- The lets, of whichever channel.
use Rattle.std.specs.Prelude.{⊤, ℕ, Bool, true, false, [], ◌∷◌, Option, Some, None}
use Rattle.exec_value.specs.declared.data.Datum.TheVariants.{Int}
use Rattle.exec_value.specs.declared.outcome.Completion.{Completion}
use Rattle.exec_value.specs.declared.outcome.Completion.TheVariants.{Value}
use Rattle.plan_rules.specs.declared.node.Node.{Node}
use Rattle.plan_rules.specs.declared.node.Node.TheVariants.{LetValue, LetError, LetStopped}

abbrev pub IsLet : Node → Type 0
IsLet (LetValue child pick bodies) = ⊤
IsLet (LetError child pick bodies) = ⊤
IsLet (LetStopped child pick bodies) = ⊤
IsLet node = ⊥

abbrev pub IsLetNode : Option Node → Type 0
IsLetNode None = ⊥
IsLetNode (Some node) = IsLet node

-- the child that runs with the let's arguments
abbrev pub let_child : Node → ℕ
let_child (LetValue child pick bodies) = child
let_child (LetError child pick bodies) = child
let_child (LetStopped child pick bodies) = child
let_child node = 0

-- A node of a small plan may complete so. Of these data, long names of errors alone want memory.
abbrev pub is_small : Completion → Bool
is_small (Value []) = true
is_small (Value (Int number ∷ [])) = true
is_small (Value values) = false
is_small done = true
