-- Where the receiver node stands, and the nodes below it: the plan's root, and the first child of each
-- `ahead`.
use Rattle.std.specs.Prelude.{IsTrue, IsFalse, slice_get, ◌&&◌, ◌==◌}
use Rattle.std.specs.Option.{option_map_or}
use Rattle.std.proofs.Common.{◌≡◌, inl, inr, ℕ, zero, suc, ◌+◌, ◌-◌, ◌≤◌, true, false, List, [], ◌∷◌, length, Option, Some, None, refl, sym, ap, ◌∙◌, subst, arith}
use Rattle.std.proofs.lemmas.Bool.{eq-eqb}
use Rattle.std.proofs.lemmas.Option.{same_Some, slice_get_within}
use Rattle.life_rules.specs.declared.event.Name.{Name}
use Rattle.node_tree.specs.declared.node.TreeNode.{TreeNode}
use Rattle.node_tree.specs.Tree.{is_root, is_child, has_source}
use Rattle.plan_rules.specs.declared.node.Node.{Node}
use Rattle.plan_rules.specs.declared.node.Node.TheVariants.{Ahead}
use Rattle.plan_shape.specs.Blueprint.{Blueprint, IsPlan}
use Rattle.plan_shape.specs.Conditions.{is_within}
use Rattle.plan_shape.specs.Finish.{is_of_version_2, is_too_new}
use Rattle.plan_shape.specs.PlanTree.{tree_of}
use Rattle.plan_shape.proofs.TreeLemmas.{tree_of-receiver}
use Rattle.plan_kinds.specs.Small.{IsSmall}
use Rattle.plan_kinds.specs.TreeLaws.{ShowsPlan, IsTop}
use Rattle.plan_kinds.proofs.Trees.{trees-show}
use Rattle.table_steps.specs.Views.{Board, IsPlaceIn}
use Rattle.home_items.specs.declared.entry.Entry.{Entry}
use Rattle.home_items.specs.Entries.{plan_of, node_of, child_of}
use Rattle.home_items.specs.Starts.{IsReceiverStart, IsStart}
use Rattle.exec_recv.specs.Sites.{IsSite, node_at, plan_at}
use Rattle.start_laws.proofs.Knowing.{places-tell}
use Rattle.step_parts.specs.Takes.{IsOnlyChild}

-- the plan has no `ahead`: its root alone stands below the receiver node
abbrev pub SpawnsNone : Blueprint → Type 0
SpawnsNone plan = (n first second : ℕ) → slice_get plan.nodes n ≡ Some (Ahead first second) → ⊥

-- so it is in a small plan, and in one of version 1
pub small-spawns : (plan : Blueprint) → IsSmall plan → SpawnsNone plan
small-spawns plan small n first second at = small.nodes_are n (Ahead first second) at

within-first : (v : ℕ) → IsTrue (is_within 1 2 v) → v ≤ 1 → v ≡ 1
within-first zero within few = cc
within-first (suc zero) within few = refl
within-first (suc (suc v)) within few = absurd (omega (arith, few))

pub old-spawns : (plan : Blueprint) → IsPlan plan → plan.settings.version ≤ 1 → SpawnsNone plan
old-spawns plan is old n first second at =
    let first_version = within-first plan.settings.version is.settings_are.version old in
    let none : IsFalse (is_too_new plan.settings plan.nodes n) = is.old_enough n (slice_get_within plan.nodes n (Ahead first second) at) in
    let wrong : IsFalse (true && true) = subst (λ b. IsFalse (b && true)) (eq-eqb plan.settings.version 1 first_version)
    (subst (λ (o : Option Node). IsFalse ((plan.settings.version == 1) && option_map_or is_of_version_2 o false)) at none) in
    cc

-- the node that stands on top of such a plan is its root
top-root : (plan : Blueprint) → SpawnsNone plan → (n : ℕ) → IsTop plan.nodes n → n ≡ length plan.nodes - 1
top-root plan spawns n (inl last) = omega (arith, last)
top-root plan spawns n (inr spawned) = absurd (spawns spawned.ahead n spawned.second spawned.node)

-- a start of the receiver node names a child
pub names-some : (start : List Entry) → IsReceiverStart start → child_of start ≡ None → ⊥
names-some [] is none = absurd is
names-some (e ∷ p ∷ above) is none = absurd is
names-some (e ∷ []) is none = some-none is.top (sym is.names ∙ none)
  where
    some-none : (n : ℕ) → Some n ≡ None → ⊥
    some-none n e = cc

pub names-top : (plan : Blueprint) (start : List Entry) → IsReceiverStart start → plan_of start ≡ plan → (n : ℕ) → child_of start ≡ Some n →
    IsTop plan.nodes n
names-top plan [] is same n names = absurd is
names-top plan (e ∷ p ∷ above) is same n names = absurd is
names-top plan (e ∷ []) is same n names =
    subst (IsTop plan.nodes) (same_Some is.top n (sym is.names ∙ names)) (subst (λ (b : Blueprint). IsTop b.nodes is.top) same is.is_top)

none-past : (nodes : List Node) (i : ℕ) → slice_get nodes i ≡ None → length nodes ≤ i
none-past [] i none = omega arith
none-past (node ∷ nodes) zero none = cc
none-past (node ∷ nodes) (suc i) none = let past = none-past nodes i none in omega (arith, past)

-- The receiver node, in a table over a plan.
module _ (board : Board Blueprint) (x : Name) (site : IsSite board) (root : node_at board x ≡ None) (place : IsPlaceIn board x) where
  abbrev plan : Blueprint
  plan = plan_at board

  shows : ShowsPlan plan.nodes (tree_of plan.nodes)
  shows = trees-show plan site.over.is_plan

  tree-size : length board.frame.tree ≡ length plan.nodes + 1
  tree-size = ap length site.over.tree ∙ shows.size

  -- it stands behind the plan's root
  pub last-node : x.node ≡ length plan.nodes
  last-node =
      let behind = none-past plan.nodes x.node root in
      let within = place.node in
      let nodes = site.over.nodes in
      omega (arith, behind, within, nodes, tree-size)

  pub root-is : is_root board.frame.tree x.node ≡ true
  root-is = eq-eqb (x.node + 1) (length board.frame.tree) (omega (arith, last-node, tree-size))

  pub source-none : has_source board.frame.tree x.node ≡ false
  source-none =
      ap (λ o. option_map_or (λ (one : TreeNode). one.source) o false)
      (ap (slice_get board.frame.tree) last-node ∙ ap (λ t. slice_get t (length plan.nodes)) site.over.tree ∙ tree_of-receiver plan.nodes)

  -- these are its children
  pub top-child : (n : ℕ) → IsTop plan.nodes n → is_child board.frame.tree x.node n ≡ true
  top-child n top =
      subst (λ k. is_child board.frame.tree k n ≡ true) (sym last-node)
      (subst (λ t. is_child t (length plan.nodes) n ≡ true) (sym site.over.tree) ((shows.below n).1 top))

  pub child-top : (n : ℕ) → is_child board.frame.tree x.node n ≡ true → IsTop plan.nodes n
  child-top n below =
      (shows.below n).0
      (subst (λ t. is_child t (length plan.nodes) n ≡ true) site.over.tree (subst (λ k. is_child board.frame.tree k n ≡ true) last-node below))

  pub root-child : is_child board.frame.tree x.node (length plan.nodes - 1) ≡ true
  root-child = let some = site.over.is_plan.some in top-child (length plan.nodes - 1) (inl (omega (arith, some)))

  pub only-root : SpawnsNone plan → (child : ℕ) → IsTop plan.nodes child → IsOnlyChild board x (Some child)
  only-root spawns child top = record {
    is = λ n names. subst (λ (k : ℕ). is_child board.frame.tree x.node k ≡ true) (same_Some child n names) (top-child child top);
    only = λ n below. ap (λ (k : ℕ). Some k) (top-root plan spawns child top ∙ sym (top-root plan spawns n (child-top n below)));
  }

  -- its start is one of the receiver node
  pub top-start : (start : List Entry) → node_of start ≡ x.node → plan_of start ≡ plan → IsStart start → IsReceiverStart start
  top-start start node same is =
      places-tell.receiver start is (subst (λ (b : Blueprint). IsPlan b) (sym same) site.over.is_plan)
      (node ∙ last-node ∙ ap (λ (b : Blueprint). length b.nodes) (sym same))
