use Rattle.std.proofs.Common.{List, arith, ◌∙◌, subst}
use Rattle.atomic_table.proofs.Lists.{at_index}
use Rattle.node_tree.specs.Tree.{IsTree}
use Rattle.node_tree.specs.declared.node.TreeNode.{TreeNode}
use Rattle.hand_tests.proofs.Ready.{fresh-first}
use Rattle.hand_tests.proofs.tests.opened.Goals as goal

pub returns-in-Ok-clause-over : goal.returns-in-Ok-clause-over
returns-in-Ok-clause-over c =
    let opened = c.in-Ok.ensures.opened in
    record {
      over = opened.over_is;
      tree = opened.tree_is ∙ c.tree-tree.ensures;
      nodes = c.tree-over.ensures.nodes;
      is_tree = subst (λ (l : List TreeNode). IsTree l) c.tree-over.ensures.tree c.size-nodes.ensures.tree;
      is_plan = c.size-size.ensures.plan;
    }

pub returns-in-Ok-clause-hand : goal.returns-in-Ok-clause-hand
returns-in-Ok-clause-hand c =
    let fresh = c.in-Ok.ensures.hands in
    let one = fresh.length_is in
    let hand = c.swap_remove-hand.result in
    fresh-first c.in-Ok.table hand c.in-Ok.hands.items fresh
    (at_index c.in-Ok.hands.items 0 hand (omega (arith, one)) c.swap_remove-hand.ensures.value)
