use Rattle.std.proofs.Common.{◌≡◌, ◌++◌, drop}
use Rattle.plan_notation.specs.NodeTokens.{later_nodes}
use Rattle.plan_notation.proofs.nodes.put_later.Given as goal

-- what was added, and then the nodes that are left
abbrev pub invariant-nodes : goal.invariant-nodes
invariant-nodes l =
    l.words ++ later_nodes l.done (drop l.node-index l.nodes)
    ≡ l.initial.words ++ later_nodes l.done l.nodes
