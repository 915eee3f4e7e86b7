-- What the tests of a new node answer.
use Rattle.std.specs.Prelude.{◌≡◌, ℕ, List, None, Some, Result, MatchResult}
use Rattle.plan_rules.specs.Children.{named_by}
use Rattle.plan_rules.specs.declared.node.Node.{Node}
use Rattle.plan_shape.specs.declared.fault.BuildFault.{BuildFault}
use Rattle.plan_shape.specs.Depths.{depth_over, depth_of}
use Rattle.plan_shape.specs.Refusals.{fault_of, refusal}

-- the depth of a new node with these children and so many parts, or why there is none
abbrev pub AllowsAt : List Node → List ℕ → ℕ → Result ℕ BuildFault → Type 0
AllowsAt nodes named parts result =
    MatchResult result
    (λ depth. (refusal nodes named parts ≡ None) × (depth ≡ depth_over (depth_of nodes) named))
    (λ fault. refusal nodes named parts ≡ Some fault)

-- the same of this node
abbrev pub Allows : List Node → Node → Result ℕ BuildFault → Type 0
Allows nodes node result =
    MatchResult result
    (λ depth. (fault_of nodes node ≡ None) × (depth ≡ depth_over (depth_of nodes) (named_by node)))
    (λ fault. fault_of nodes node ≡ Some fault)
