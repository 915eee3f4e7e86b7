use Rattle.std.proofs.Common.{List, ◌∙◌, subst}
use Rattle.node_tree.specs.Tree.{IsTree}
use Rattle.node_tree.specs.declared.node.TreeNode.{TreeNode}
use Rattle.by_example.proofs.opening.open_one.Goals as goal

pub returns-clause-table : goal.returns-clause-table
returns-clause-table c =
    let opened = c.in_ok-table.ensures.opened in
    record {
      over = record {
        over = opened.over_is;
        tree = opened.tree_is ∙ c.tree.ensures;
        nodes = c.tree-2.ensures.nodes;
        is_tree = subst (λ (l : List TreeNode). IsTree l) c.tree-2.ensures.tree c.size.ensures.tree;
        is_plan = c.size-2.ensures.plan;
      };
      blocks = opened.blocks_are;
      hands = opened.hands_are;
    }
