-- What the tree of a plan shows of its nodes.
use Rattle.std.proofs.Common.{◌≡◌, ℕ, ◌+◌, ◌<◌, ◌==◌, Bool, true, false, cond, List, [], ◌∷◌, length, Some, None, refl, sym, ap, ◌∙◌, inl, inr, arith}
use Rattle.std.specs.Prelude.{Contains, nat_eq, nat_lt, is_none, slice_get}
use Rattle.std.specs.Option.{option_map_or, option_and_then}
use Rattle.std.specs.List.{list_any}
use Rattle.std.proofs.lemmas.Bool.{cases_lt, and_from, and_parts, lt-ltb, eq-eqb, eqb-true, cond-true, cond-false, false≢true}
use Rattle.std.proofs.lemmas.List.Elements.{All-contains}
use Rattle.std.proofs.lemmas.Map.Views.{Contains-from_any}
use Rattle.std.proofs.lemmas.Option.{slice_get_within}
use Rattle.node_tree.specs.declared.node.TreeNode.{TreeNode}
use Rattle.node_tree.specs.Tree as tree
use Rattle.common_lemmas.proofs.Bool.{either}
use Rattle.common_lemmas.proofs.Options.{known}
use Rattle.plan_rules.specs.declared.node.Node.{Node}
use Rattle.plan_rules.specs.declared.node.Node.TheVariants.{Ahead}
use Rattle.plan_shape.specs.Blueprint.{Blueprint, IsPlan}
use Rattle.plan_shape.specs.Children.{children_of}
use Rattle.plan_shape.specs.Finish.{passes}
use Rattle.plan_shape.specs.Forest.{IsForest}
use Rattle.plan_shape.specs.Parents.{parent_of, is_child}
use Rattle.plan_shape.specs.PlanTree.{is_when_all, is_unstoppable, spawns, parent_in_tree, tree_node, tree_of}
use Rattle.plan_shape.proofs.ForestLaws.{parent_later}
use Rattle.plan_shape.proofs.LeastLemmas.{least-IsLeast}
use Rattle.plan_shape.proofs.TreeLemmas.{length-tree_of, tree_of-node, tree_of-receiver}
use Rattle.plan_kinds.specs.TreeLaws.{ShowsNode, IsSpawned, IsTop, TreesShowPlans}
use Rattle.plan_kinds.proofs.Placing.{child-parent}
use Rattle.plan_kinds.proofs.Runnable.{first}

-- the parent of a node in the tree, by its parent in the plan
module _ (nodes : List Node) (k : ℕ) where
  abbrev pick : ℕ → ℕ
  pick m = cond (passes (spawns k) nodes m) (length nodes) m

  free-parent : parent_of nodes k ≡ None → parent_in_tree nodes k ≡ length nodes
  free-parent none = ap (λ o. option_map_or pick o (length nodes)) none

  aside-parent : (m : ℕ) → parent_of nodes k ≡ Some m → passes (spawns k) nodes m ≡ true →
      parent_in_tree nodes k ≡ length nodes
  aside-parent m some aside =
      ap (λ o. option_map_or pick o (length nodes)) some
      ∙ cond-true (passes (spawns k) nodes m) (length nodes) m aside

  own-parent : (m : ℕ) → parent_of nodes k ≡ Some m → passes (spawns k) nodes m ≡ false →
      parent_in_tree nodes k ≡ m
  own-parent m some other =
      ap (λ o. option_map_or pick o (length nodes)) some
      ∙ cond-false (passes (spawns k) nodes m) (length nodes) m other

  -- whose child a node of the plan is in the tree
  child-there : k < length nodes → (m : ℕ) → tree.is_child (tree_of nodes) m k ≡ (parent_in_tree nodes k == m)
  child-there within m =
      ap (λ o. option_map_or (λ q. q == m) (option_and_then (λ (node : TreeNode). node.parent) o) false)
      (tree_of-node nodes k within)

  -- only such a node is a child
  child-within : (m : ℕ) → tree.is_child (tree_of nodes) m k ≡ true → k < length nodes
  child-within m is =
      known (slice_get (tree_of nodes) k)
      (λ none.
      let not : tree.is_child (tree_of nodes) m k ≡ false =
      ap (λ o. option_map_or (λ q. q == m) (option_and_then (λ (node : TreeNode). node.parent) o) false) none in
      absurd (false≢true (sym not ∙ is)))
      (λ node some.
      elim (cases_lt k (length nodes)) [
        | inl within ↦ within
        | inr past ↦
            let last : k ≡ length nodes =
            omega (arith, past, slice_get_within (tree_of nodes) k node some, length-tree_of nodes) in
            let not : tree.is_child (tree_of nodes) m k ≡ false =
            ap (tree.is_child (tree_of nodes) m) last
            ∙ ap (λ o. option_map_or (λ q. q == m) (option_and_then (λ (node : TreeNode). node.parent) o) false)
            (tree_of-receiver nodes) in
            absurd (false≢true (sym not ∙ is))
      ])

-- a node that spawns k is an `ahead` whose first child it is
spawning : (k : ℕ) (node : Node) → spawns k node ≡ true → (two : ℕ) × (node ≡ Ahead k two)
spawning k (Ahead one two) is = (two, ap (λ n. Ahead n two) (eqb-true one k is))
spawning k node is = absurd (false≢true is)

spawner : (nodes : List Node) (k m : ℕ) → passes (spawns k) nodes m ≡ true → IsSpawned nodes k
spawner nodes k m is =
    known (slice_get nodes m)
    (λ none. absurd (false≢true (sym (ap (λ o. option_map_or (spawns k) o false) none) ∙ is)))
    (λ node at.
    let found = spawning k node (sym (ap (λ o. option_map_or (spawns k) o false) at) ∙ is) in
    record { ahead = m; second = found.0; node = at ∙ ap Some found.1 })

module _ (nodes : List Node) (forest : IsForest nodes) (n : ℕ) (node : Node) (at : slice_get nodes n ≡ Some node) where
  within : n < length nodes
  within = slice_get_within nodes n node at

  tells : {A : Type 0} (test : TreeNode → A) (d : A) →
      option_map_or test (slice_get (tree_of nodes) n) d ≡ test (tree_node nodes n)
  tells test d = ap (λ o. option_map_or test o d) (tree_of-node nodes n within)

  passes-at : (test : Node → Bool) → passes test nodes n ≡ test node
  passes-at test = ap (λ o. option_map_or test o false) at

  -- its children in the tree are its own
  child-own : (k : ℕ) → tree.is_child (tree_of nodes) n k ≡ true → parent_of nodes k ≡ Some n
      × (spawns k node ≡ false)
  child-own k is =
      let below : k < length nodes = child-within nodes k n is in
      let same : parent_in_tree nodes k ≡ n =
      eqb-true (parent_in_tree nodes k) n (sym (child-there nodes k below n) ∙ is) in
      known (parent_of nodes k)
      (λ none. absurd (omega (arith, within, free-parent nodes k none, same)))
      (λ m some.
      either (passes (spawns k) nodes m)
      (λ aside. absurd (omega (arith, within, aside-parent nodes k m some aside, same)))
      (λ other.
      let here : m ≡ n = sym (own-parent nodes k m some other) ∙ same in (
        some ∙ ap Some here,
        sym (passes-at (spawns k)) ∙ ap (passes (spawns k) nodes) (sym here) ∙ other,
      )))

  named : (k : ℕ) → parent_of nodes k ≡ Some n → Contains (children_of n node) k
  named k some =
      let found = least-IsLeast (is_child nodes k) (length nodes) n some in
      let members : list_any (nat_eq k) (children_of n node) ≡ true =
      sym (ap (λ o. list_any (nat_eq k) (option_map_or (children_of n) o [])) at) ∙ found.passes in
      Contains-from_any eqb-true k (children_of n node) members

  child-back : (k : ℕ) → Contains (children_of n node) k → spawns k node ≡ false →
      tree.is_child (tree_of nodes) n k ≡ true
  child-back k among other =
      let below : k < n = All-contains (λ c. c < n) (children_of n node) k (forest.each n node at).below among in
      let parent : parent_of nodes k ≡ Some n = child-parent nodes forest n k node at among in
      child-there nodes k (omega (arith, below, within)) n
      ∙ eq-eqb (parent_in_tree nodes k) n (own-parent nodes k n parent (passes-at (spawns k) ∙ other))

  pub shows-node : ShowsNode (tree_of nodes) n node
  shows-node = record {
    source = tells (λ one. one.source) false ∙ passes-at is_when_all;
    unstoppable = tells (λ one. one.unstoppable) false ∙ passes-at is_unstoppable;
    children = λ k. (
      λ is. let own = child-own k is in (named k own.0, own.1),
      λ both. child-back k both.0 both.1,
    );
  }

module _ (plan : Blueprint) (is_plan : IsPlan plan) where
  -- what stands below the receiver node
  aside : (k : ℕ) → tree.is_child (tree_of plan.nodes) (length plan.nodes) k ≡ true → IsTop plan.nodes k
  aside k is =
      let below : k < length plan.nodes = child-within plan.nodes k (length plan.nodes) is in
      let same : parent_in_tree plan.nodes k ≡ length plan.nodes =
      eqb-true _ _ (sym (child-there plan.nodes k below (length plan.nodes)) ∙ is) in
      known (parent_of plan.nodes k)
      (λ none. inl ((is_plan.root k).0
      (and_from (nat_lt k (length plan.nodes)) (is_none (parent_of plan.nodes k))
      (lt-ltb k (length plan.nodes) below) (ap is_none none))))
      (λ m some.
      either (passes (spawns k) plan.nodes m)
      (λ t. inr (spawner plan.nodes k m t))
      (λ other.
      let later = parent_later plan.nodes k m is_plan.forest some in
      absurd (omega (arith, later.1, own-parent plan.nodes k m some other, same))))

  root-aside : (k : ℕ) → k + 1 ≡ length plan.nodes →
      tree.is_child (tree_of plan.nodes) (length plan.nodes) k ≡ true
  root-aside k last =
      let free = and_parts (nat_lt k (length plan.nodes)) (is_none (parent_of plan.nodes k)) ((is_plan.root k).1 last) in
      known (parent_of plan.nodes k)
      (λ none.
      child-there plan.nodes k (omega (arith, last)) (length plan.nodes)
      ∙ eq-eqb _ _ (free-parent plan.nodes k none))
      (λ m some. absurd (false≢true (sym (ap is_none some) ∙ free.1)))

  spawned-aside : (k : ℕ) → IsSpawned plan.nodes k → tree.is_child (tree_of plan.nodes) (length plan.nodes) k ≡ true
  spawned-aside k spawned =
      let n = spawned.ahead in
      let node : Node = Ahead k spawned.second in
      let at = spawned.node in
      let among : Contains (children_of n node) k = first k (spawned.second ∷ []) in
      let below : k < n = All-contains (λ c. c < n) (children_of n node) k (is_plan.forest.each n node at).below among in
      let parent : parent_of plan.nodes k ≡ Some n = child-parent plan.nodes is_plan.forest n k node at among in
      let aside : passes (spawns k) plan.nodes n ≡ true =
      passes-at plan.nodes is_plan.forest n node at (spawns k) ∙ eq-eqb k k refl in
      child-there plan.nodes k (omega (arith, below, slice_get_within plan.nodes n node at)) (length plan.nodes)
      ∙ eq-eqb _ _ (aside-parent plan.nodes k n parent aside)

pub trees-show : TreesShowPlans
trees-show plan is_plan = record {
  size = length-tree_of plan.nodes;
  each = λ n node at. shows-node plan.nodes is_plan.forest n node at;
  below = λ k. (
    λ is. aside plan is_plan k is,
    λ stands. elim stands [
      | inl last ↦ root-aside plan is_plan k last
      | inr spawned ↦ spawned-aside plan is_plan k spawned
    ],
  );
}
