-- Nodes that stand behind their children.
use Rattle.std.specs.Prelude.{◌≡◌, ℕ, ◌<◌, List, Some, All, slice_get}
use Rattle.plan_rules.specs.declared.node.Node.{Node}
use Rattle.plan_rules.specs.Children.{named_by}

-- every child of a node has a smaller number than the node
abbrev pub IsOrdered : List Node → Type 0
IsOrdered nodes =
    (n : ℕ) (node : Node) → slice_get nodes n ≡ Some node → All (λ k. k < n) (named_by node)
