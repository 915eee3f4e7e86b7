-- Nodes that can be finished are a plan, and their tree is one.
use Rattle.std.proofs.Common.{◌≡◌, ℕ, ◌+◌, ◌-◌, ◌<◌, Bool, true, false, not, ◌&&◌, cond, List, [], ◌∷◌, ◌++◌, length, map, Some, None, refl, sym, ap, ◌∙◌, inl, inr, arith, length-append}
use Rattle.std.specs.Prelude.{◌==◌, nat_lt, is_none, slice_get}
use Rattle.std.specs.Option.{option_map, option_map_or, option_and_then}
use Rattle.std.specs.List.{range_with_len}
use Rattle.std.proofs.lemmas.Bool.{cases_lt, and_from, not-false, eqb-true, lt-ltb, ne_eqb, eq-eqb, cond-true, cond-false, false≢true}
use Rattle.std.proofs.lemmas.Option.{slice_get-get_or}
use Rattle.std.proofs.lemmas.List.FromFn.{length-map-range_with_len, get_or-map-range_with_len}
use Rattle.node_tree.specs.declared.node.TreeNode.{TreeNode}
use Rattle.node_tree.specs.declared.node.TheConstants.{MOST_NODES}
use Rattle.node_tree.specs.Tree.{IsTree, IsFirstFault, is_node, has_place, is_root, has_source}
use Rattle.node_tree.specs.Tree as tree
use Rattle.common_lemmas.proofs.Bool.{either}
use Rattle.common_lemmas.proofs.Options.{known}
use Rattle.plan_rules.specs.declared.node.Node.{Node}
use Rattle.plan_rules.specs.declared.node.Node.TheVariants.{WhenAll}
use Rattle.plan_rules.specs.declared.settings.Settings.{Settings}
use Rattle.plan_shape.specs.declared.fault.BuildFault.TheVariants.{UsedChild, TooManyNodes, Loose, Version, Misplaced}
use Rattle.plan_shape.specs.Least.{least}
use Rattle.plan_shape.specs.Parents.{parent_of, is_free}
use Rattle.plan_shape.specs.Refusals.{fault_if}
use Rattle.plan_shape.specs.Forest.{IsForest}
use Rattle.plan_shape.specs.Finish.{passes, is_loose, is_too_large, is_too_new, is_misplaced, finish_fault}
use Rattle.plan_shape.specs.Blueprint.{AreSettings, IsPlan}
use Rattle.plan_shape.specs.PlanTree.{is_when_all, is_unstoppable, spawns, parent_in_tree, tree_node, receiver_node, tree_of}
use Rattle.common_lemmas.proofs.Lists.{slice_get-append_left, slice_get-append_right}
use Rattle.plan_shape.proofs.LeastLemmas.{none_passes}
use Rattle.plan_builder.proofs.RefusalLemmas.{or_first, fault_if-None, map-None, free_within}
use Rattle.plan_shape.proofs.ForestLaws.{parent_later}
use Rattle.plan_shape.proofs.TreeLemmas.{length-tree_of, tree_of-node, tree_of-receiver}

-- what it tells that nothing stands against a plan
pub record IsFinishable (nodes : List Node) (root : ℕ) (settings : Settings) : Type 0 where
  pub root_free : is_free nodes root ≡ true
  pub small : is_too_large settings nodes ≡ false
  pub none_loose : (n : ℕ) → n < length nodes → is_loose nodes root n ≡ false
  pub none_new : (n : ℕ) → n < length nodes → is_too_new settings nodes n ≡ false
  pub none_misplaced : (n : ℕ) → n < length nodes → is_misplaced nodes n ≡ false

pub finishable : (nodes : List Node) (root : ℕ) (settings : Settings) → finish_fault nodes root settings ≡ None →
    IsFinishable nodes root settings
finishable nodes root settings e =
    let a = or_first (fault_if (not (is_free nodes root)) (UsedChild root)) _ e in
    let b = or_first (fault_if (is_too_large settings nodes) TooManyNodes) _ a.1 in
    let c = or_first (option_map Loose (least (is_loose nodes root) (length nodes))) _ b.1 in
    let d = or_first (option_map Version (least (is_too_new settings nodes) (length nodes))) _ c.1 in
    record {
      root_free = not-false (is_free nodes root) (fault_if-None (not (is_free nodes root)) (UsedChild root) a.0);
      small = fault_if-None (is_too_large settings nodes) TooManyNodes b.0;
      none_loose = none_passes (is_loose nodes root) (length nodes) (map-None Loose (least (is_loose nodes root) (length nodes)) c.0);
      none_new = none_passes (is_too_new settings nodes) (length nodes) (map-None Version (least (is_too_new settings nodes) (length nodes)) d.0);
      none_misplaced = none_passes (is_misplaced nodes) (length nodes) (map-None Misplaced (least (is_misplaced nodes) (length nodes)) d.1);
    }

-- a free node is the root
free_is_root : (nodes : List Node) (root : ℕ) (settings : Settings) → IsFinishable nodes root settings →
    (n : ℕ) → is_free nodes n ≡ true → n ≡ root
free_is_root nodes root settings h n e =
    either (n == root)
    (λ t. eqb-true n root t)
    (λ f.
    let loose : is_loose nodes root n ≡ true =
    and_from (is_free nodes n) (not (n == root)) e (ap not f) in
    absurd (false≢true (sym (h.none_loose n (free_within nodes n e)) ∙ loose)))

-- the last node has no parent
last_free : (nodes : List Node) (n : ℕ) → IsForest nodes → n + 1 ≡ length nodes → is_free nodes n ≡ true
last_free nodes n forest last =
    let none : parent_of nodes n ≡ None =
    known (parent_of nodes n) (λ e. e)
    (λ m some. let up = parent_later nodes n m forest some in absurd (omega (arith, last, up.0, up.1))) in
    and_from (nat_lt n (length nodes)) (is_none (parent_of nodes n)) (lt-ltb n (length nodes) (omega (arith, last)))
    (ap is_none none)

pub root_is_last : (nodes : List Node) (root : ℕ) (settings : Settings) → IsForest nodes →
    IsFinishable nodes root settings → root + 1 ≡ length nodes
root_is_last nodes root settings forest h =
    let some = free_within nodes root h.root_free in
    let last : ℕ = length nodes - 1 in
    let is : last ≡ root =
    free_is_root nodes root settings h last (last_free nodes last forest (omega (arith, some))) in
    omega (arith, some, is)

pub plan_is : (nodes : List Node) (root : ℕ) (settings : Settings) → IsForest nodes → AreSettings settings →
    IsFinishable nodes root settings → IsPlan (record { nodes = nodes; settings = settings })
plan_is nodes root settings forest are h =
    let last = root_is_last nodes root settings forest h in
    record {
      forest = forest;
      some = omega (arith, last);
      root = λ n. (λ e. ap (λ k. k + 1) (free_is_root nodes root settings h n e) ∙ last, λ e. last_free nodes n forest e);
      settings_are = are;
      small = h.small;
      old_enough = h.none_new;
      well_placed = h.none_misplaced;
    }

-- a node's place in the tree is behind it
parent_in_tree-later : (nodes : List Node) (n : ℕ) → IsForest nodes → n < length nodes →
    (n < parent_in_tree nodes n) × (parent_in_tree nodes n < length nodes + 1)
parent_in_tree-later nodes n forest l =
    let size : ℕ = length nodes in
    let pick : ℕ → ℕ = λ m. cond (passes (spawns n) nodes m) size m in
    known (parent_of nodes n)
    (λ none.
    let is : parent_in_tree nodes n ≡ size = ap (λ o. option_map_or pick o size) none in
    (omega (arith, is, l), omega (arith, is)))
    (λ m some.
    let is : parent_in_tree nodes n ≡ pick m = ap (λ o. option_map_or pick o size) some in
    let up = parent_later nodes n m forest some in
    either (passes (spawns n) nodes m)
    (λ t. let first : pick m ≡ size = cond-true (passes (spawns n) nodes m) size m t in
    (omega (arith, is, first, l), omega (arith, is, first)))
    (λ f. let other : pick m ≡ m = cond-false (passes (spawns n) nodes m) size m f in
    (omega (arith, is, other, up.0), omega (arith, is, other, up.1))))

never_both : (node : Node) → (is_when_all node && is_unstoppable node) ≡ false
never_both (WhenAll children) = refl
never_both node = refl

not_both : (nodes : List Node) (n : ℕ) → not (passes is_when_all nodes n && passes is_unstoppable nodes n) ≡ true
not_both nodes n =
    known (slice_get nodes n)
    (λ none. ap (λ o. not (option_map_or is_when_all o false && option_map_or is_unstoppable o false)) none)
    (λ node some.
    ap (λ o. not (option_map_or is_when_all o false && option_map_or is_unstoppable o false)) some
    ∙ ap not (never_both node))

-- each node of the tree keeps the rules of trees
node_kept : (nodes : List Node) (n : ℕ) → IsForest nodes → n < length nodes → is_node (tree_of nodes) n ≡ true
node_kept nodes n forest l =
    let whole : List TreeNode = tree_of nodes in
    let long = length-tree_of nodes in
    let at : slice_get whole n ≡ Some (tree_node nodes n) = tree_of-node nodes n l in
    let later = parent_in_tree-later nodes n forest l in
    let parent : tree.parent_of whole n ≡ Some (parent_in_tree nodes n) =
    ap (λ o. option_and_then (λ (node : TreeNode). node.parent) o) at in
    let inner : is_root whole n ≡ false = ne_eqb (n + 1) (length whole) (λ e. absurd (omega (arith, l, long, e))) in
    let test : ℕ → Bool = λ p. nat_lt n p && nat_lt p (length whole) in
    let place : has_place whole n ≡ true =
    cond-false (is_root whole n) (is_none (tree.parent_of whole n)) (option_map_or test (tree.parent_of whole n) false) inner
    ∙ ap (λ o. option_map_or test o false) parent
    ∙ and_from (nat_lt n (parent_in_tree nodes n)) (nat_lt (parent_in_tree nodes n) (length whole))
    (lt-ltb n (parent_in_tree nodes n) later.0) (lt-ltb (parent_in_tree nodes n) (length whole) (omega (arith, later.1, long))) in
    let few : nat_lt n MOST_NODES ≡ true = lt-ltb n MOST_NODES (omega (arith, l, forest.few)) in
    let marks : not (has_source whole n && tree.is_unstoppable whole n) ≡ true =
    ap (λ o. not (option_map_or (λ (node : TreeNode). node.source) o false && option_map_or (λ (node : TreeNode). node.unstoppable) o false)) at
    ∙ not_both nodes n in
    and_from (has_place whole n && nat_lt n MOST_NODES) (not (has_source whole n && tree.is_unstoppable whole n))
    (and_from (has_place whole n) (nat_lt n MOST_NODES) place few) marks

receiver_kept : (nodes : List Node) → IsForest nodes → is_node (tree_of nodes) (length nodes) ≡ true
receiver_kept nodes forest =
    let whole : List TreeNode = tree_of nodes in
    let n : ℕ = length nodes in
    let at : slice_get whole n ≡ Some receiver_node = tree_of-receiver nodes in
    let parent : tree.parent_of whole n ≡ None =
    ap (λ o. option_and_then (λ (node : TreeNode). node.parent) o) at in
    let test : ℕ → Bool = λ p. nat_lt n p && nat_lt p (length whole) in
    let place : has_place whole n ≡ true =
    cond-true (is_root whole n) (is_none (tree.parent_of whole n)) (option_map_or test (tree.parent_of whole n) false)
    (eq-eqb (n + 1) (length whole) (sym (length-tree_of nodes)))
    ∙ ap is_none parent in
    let few : nat_lt n MOST_NODES ≡ true = lt-ltb n MOST_NODES (omega (arith, forest.few)) in
    let marks : not (has_source whole n && tree.is_unstoppable whole n) ≡ true =
    ap (λ o. not (option_map_or (λ (node : TreeNode). node.source) o false && option_map_or (λ (node : TreeNode). node.unstoppable) o false)) at in
    and_from (has_place whole n && nat_lt n MOST_NODES) (not (has_source whole n && tree.is_unstoppable whole n))
    (and_from (has_place whole n) (nat_lt n MOST_NODES) place few) marks

pub tree_is : (nodes : List Node) → IsForest nodes → IsTree (tree_of nodes)
tree_is nodes forest = record {
  some = omega (arith, length-tree_of nodes);
  each = λ n l.
      elim (cases_lt n (length nodes)) [
        | inl before ↦ node_kept nodes n forest before
        | inr from ↦
            let last : n ≡ length nodes = omega (arith, from, l, length-tree_of nodes) in
            ap (is_node (tree_of nodes)) last ∙ receiver_kept nodes forest
      ];
}

-- so no rule is broken
pub no_fault : (nodes : List Node) (n : ℕ) → IsForest nodes → IsFirstFault (tree_of nodes) n → ⊥
no_fault nodes n forest broken =
    let is = tree_is nodes forest in
    false≢true (sym broken.fault ∙ is.each n (omega (arith, broken.within, is.some)))
