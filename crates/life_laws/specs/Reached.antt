-- The states that can be reached.
use Rattle.std.specs.Prelude.{◌≡◌, ℕ, ◌<◌, List}
use Rattle.node_tree.specs.declared.node.TreeNode.{TreeNode}
use Rattle.node_tree.specs.declared.scope_kind.ScopeKind.{ScopeKind}
use Rattle.node_tree.specs.Tree.{IsTree}
use Rattle.life_rules.specs.States.{State}
use Rattle.life_rules.specs.Steps.{Move, run}
use Rattle.life_rules.specs.Opening.{opening}

-- some list of moves of any hands leads to the state from the opening over a tree
pub record Reached (s : State) : Type 0 where
  pub nodes : List TreeNode
  pub blocks : ℕ
  pub hands : ℕ
  pub kind : ScopeKind
  pub most : ℕ
  pub tree : IsTree nodes
  pub some_hand : 0 < hands
  pub moves : List Move
  pub leads : s ≡ run moves (opening nodes blocks hands kind most)

-- the state from which it was reached
abbrev pub first : {s : State} → Reached s → State
first r = opening r.nodes r.blocks r.hands r.kind r.most
