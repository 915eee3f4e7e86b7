use Rattle.std.proofs.Common.{◌≡◌, List, length, ap, sym, subst, ◌∙◌}
use Rattle.node_tree.specs.declared.node.TreeNode.{TreeNode}
use Rattle.life_rules.specs.Opening.{opening}
use Rattle.node_tree.specs.Tree.{IsTree}
use Rattle.exec_life.specs.StateLists.{StateLists}
use Rattle.exec_life.specs.ViewLists.{AreBlankViews}
use Rattle.exec_life.specs.WordLists.{AreFirstWords}
use Rattle.exec_life.proofs.OpeningMeans.{opening-means, opening-state}
use Rattle.exec_life.proofs.state.opening.Goals as goal

pub invariant_of-result : goal.invariant_of-result
invariant_of-result c =
    let d : StateLists = record {
      tree = c.in_ok-tree.tree;
      kind = c.args.kind;
      most = c.args.most;
      words = c.in_ok-words.words;
      views = c.in_ok-views.views.items;
    } in
    let same = c.in_ok-tree.ensures.cases in
    let size : c.size-nodes.result ≡ length d.tree =
    c.size-nodes.ensures.size ∙ ap (λ (nodes : List TreeNode). length nodes) (sym same) in
    opening-state d c.args.blocks c.args.hands
    (subst (λ n. AreFirstWords c.args.blocks n d.words) size c.in_ok-words.ensures)
    (subst (λ n. AreBlankViews c.args.blocks n c.args.hands d.views) size c.in_ok-views.ensures)
    (subst IsTree (sym same) c.size-nodes.ensures.tree)
    c.requires.blocks c.requires.some_hand c.requires.hands c.requires.most

pub returns : goal.returns
returns c =
    let d : StateLists = record {
      tree = c.in_ok-tree.tree;
      kind = c.args.kind;
      most = c.args.most;
      words = c.in_ok-words.words;
      views = c.in_ok-views.views.items;
    } in
    let same = c.in_ok-tree.ensures.cases in
    let size : c.size-nodes.result ≡ length d.tree =
    c.size-nodes.ensures.size ∙ ap (λ (nodes : List TreeNode). length nodes) (sym same) in
    opening-means d c.args.blocks c.args.hands
    (subst (λ n. AreFirstWords c.args.blocks n d.words) size c.in_ok-words.ensures)
    (subst (λ n. AreBlankViews c.args.blocks n c.args.hands d.views) size c.in_ok-views.ensures)
    ∙ ap (λ (nodes : List TreeNode). opening nodes c.args.blocks c.args.hands c.args.kind c.args.most) same
