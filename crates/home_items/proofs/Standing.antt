-- The node of a start stands right below that of the start above it, in the plan's tree.
use Rattle.std.specs.Prelude.{Contains}
use Rattle.std.specs.List.{list_any, range_with_len}
use Rattle.std.proofs.Common.{◌≡◌, ℕ, ◌-◌, ◌<◌, true, false, not, ◌==◌, List, [], ◌∷◌, length, Some, None, inl, inr, refl, sym, ◌∙◌, subst, arith}
use Rattle.std.proofs.lemmas.Bool.{and_parts, not-true, eq-eqb, eqb-true, false≢true}
use Rattle.std.proofs.lemmas.Option.{same_Some, slice_get_within}
use Rattle.std.proofs.lemmas.List.Elements.{Contains-append_left, Contains-append_right, Contains-push_cases}
use Rattle.std.proofs.lemmas.List.Folds.{list_any_at}
use Rattle.std.proofs.lemmas.Map.Views.{Contains-from_any}
use Rattle.common_lemmas.specs.Lists.{are_different}
use Rattle.common_lemmas.proofs.Bool.{either}
use Rattle.common_lemmas.proofs.Options.{known}
use Rattle.exec_value.specs.declared.kinds.Kind.{Kind}
use Rattle.exec_value.specs.declared.data.Datum.{Datum}
use Rattle.node_tree.specs.Tree as tree
use Rattle.plan_rules.specs.declared.node.Node.{Node}
use Rattle.plan_rules.specs.declared.node.Node.TheVariants.{LetValue, LetError, LetStopped, Bulk, Ahead}
use Rattle.plan_rules.specs.Children.{named_by}
use Rattle.plan_kinds.specs.Shapes.{Shape}
use Rattle.plan_kinds.specs.Reached.{Reaches}
use Rattle.plan_kinds.proofs.Placing.{run-named, body-named, no-member, before}
use Rattle.plan_kinds.proofs.Plans.{plans-built}
use Rattle.plan_shape.specs.declared.limits.TheConstants.{BULK_PARTS}
use Rattle.plan_shape.specs.Children.{children_of, part_count}
use Rattle.plan_shape.specs.Forest.{IsForest, IsPartOf}
use Rattle.plan_shape.specs.Blueprint.{Blueprint, IsPlan}
use Rattle.plan_shape.specs.PlanTree.{spawns, tree_of}
use Rattle.plan_shape.proofs.ListLemmas.{range_member}
use Rattle.plan_shape.proofs.ForestLaws.{node_at as at-number}
use Rattle.home_items.specs.declared.entry.Entry.{Entry}
use Rattle.home_items.specs.Entries.{plan_node}
use Rattle.home_items.specs.HasKinds.{HasKinds}
use Rattle.home_items.specs.Below.{run_below, IsPlainChild, IsPart, ByNode}
use Rattle.plan_kinds.specs.TreeLaws.{IsTop}
use Rattle.home_items.specs.Starts.{IsReceiver, IsStart}
use Rattle.home_items.proofs.KindsBelow.{body-among, in-option}
use Rattle.plan_kinds.proofs.Trees.{trees-show}

-- a node that is reached is one of the plan
reach-within : (nodes : List Node) (input : Kind) → IsForest nodes → {n : ℕ} {a : Shape} → Reaches nodes input n a →
    n < length nodes
reach-within nodes input forest (Reaches.root last) = omega (arith, last)
reach-within nodes input forest (Reaches.child {n} {k} {node} reached at among) =
    let less = before nodes forest n k node at (run-named node k among) in
    omega (arith, less, slice_get_within nodes n node at)
reach-within nodes input forest (Reaches.body {n} {k} {node} reached at among) =
    let less = before nodes forest n k node at (body-named node k among) in
    omega (arith, less, slice_get_within nodes n node at)
reach-within nodes input forest (Reaches.part {n} at) = slice_get_within nodes n _ at

pub kinds-within : (plan : Blueprint) → IsPlan plan → (n : ℕ) (args : List Datum) → HasKinds plan n args → n < length plan.nodes
kinds-within plan is_plan n args has = reach-within plan.nodes plan.settings.input is_plan.forest has.reached

-- two children of an `ahead` differ
pub second-differs : (first second : ℕ) → are_different (first ∷ second ∷ []) ≡ true → (first == second) ≡ false
second-differs first second different =
    either (first == second)
    (λ t.
    let none = not-true (list_any (λ m. m == first) (second ∷ []))
    (and_parts (not (list_any (λ m. m == first) (second ∷ []))) (are_different (second ∷ [])) different).0 in
    let some = list_any_at (λ m. m == first) (second ∷ []) 0 second (omega arith) (eq-eqb second first (sym (eqb-true first second t))) in
    absurd (false≢true (sym none ∙ some)))
    (λ f. f)

-- what a node names is among its children
named-here : (n : ℕ) (node : Node) (k : ℕ) → Contains (named_by node) k → Contains (children_of n node) k
named-here n node k among =
    Contains-append_left (named_by node) (range_with_len (n - part_count node) (part_count node)) k among

-- a child that runs with its parent's arguments is one of the node's, and isn't spawned by it
run-here : (n : ℕ) (node : Node) (p : Entry) (k : ℕ) → are_different (children_of n node) ≡ true →
    Contains (run_below (Some node) p) k → Contains (children_of n node) k × (spawns k node ≡ false)
run-here n (Ahead first second) p k different among =
    let same : second ≡ k =
    elim (Contains-push_cases [] second k among) [ inl none_there ↦ no-member k none_there | inr e ↦ e ] in
    ((1, omega arith, same), subst (λ j. (first == j) ≡ false) same (second-differs first second different))
run-here n node p k different among = (named-here n node k (run-named node k among), refl)

module _ (e p : Entry) (is_plan : IsPlan p.plan) where
  abbrev Here : Node → Type 0
  Here node = Contains (children_of p.node node) e.node × (spawns e.node node ≡ false)

  run-child : (node : Node) → plan_node p ≡ Some node → IsPlainChild (Some node) e p → Here node
  run-child node at run = run-here p.node node p e.node (is_plan.forest.each p.node node at).distinct run.runs

  part-child : (child : ℕ) (node : Node) → plan_node p ≡ Some node → IsPart child true e p →
      Contains (children_of p.node node) e.node
  part-child child node at part =
      let made : IsPartOf p.plan.nodes e.node p.node part.part = (is_plan.forest.each e.node _ part.node).made in
      let stands = made.bulk_stands in
      let owner : Node = Bulk (stands.0) (stands.1) in
      let parts : List ℕ = range_with_len (p.node - BULK_PARTS) BULK_PARTS in
      subst (λ d. Contains (children_of p.node d) e.node) (same_Some owner node (sym stands.2 ∙ at))
      (Contains-append_right (stands.0 ∷ []) parts e.node
      (Contains-from_any eqb-true e.node parts
      (range_member (p.node - BULK_PARTS) BULK_PARTS e.node (omega (arith, made.place, made.within))
      (omega (arith, made.place, made.within)))))

  here : (node : Node) → plan_node p ≡ Some node → ByNode (Some node) true e p → Here node
  here (LetValue child pick bodies) at (inl run) = run-child (LetValue child pick bodies) at run
  here (LetValue child pick bodies) at (inr body) =
      let some = (plans-built p.plan is_plan).whole p.node (LetValue child pick bodies) at in (
        named-here p.node (LetValue child pick bodies) e.node
            (body-named (LetValue child pick bodies) e.node
            (subst (Contains bodies) (sym body.body) (body-among bodies some body.number))),
        refl,
      )
  here (LetError child pick bodies) at (inl run) = run-child (LetError child pick bodies) at run
  here (LetError child pick bodies) at (inr body) =
      let some = (plans-built p.plan is_plan).whole p.node (LetError child pick bodies) at in (
        named-here p.node (LetError child pick bodies) e.node
            (body-named (LetError child pick bodies) e.node
            (subst (Contains bodies) (sym body.body) (body-among bodies some body.number))),
        refl,
      )
  here (LetStopped child pick bodies) at (inl run) = run-child (LetStopped child pick bodies) at run
  here (LetStopped child pick bodies) at (inr body) =
      let some = (plans-built p.plan is_plan).whole p.node (LetStopped child pick bodies) at in (
        named-here p.node (LetStopped child pick bodies) e.node
            (body-named (LetStopped child pick bodies) e.node
            (subst (Contains bodies) (sym body.body) (body-among bodies some body.number))),
        refl,
      )
  here (Bulk child job) at (inl run) = run-child (Bulk child job) at run
  here (Bulk child job) at (inr part) = (part-child child (Bulk child job) at part, refl)
  here node at run = run-child node at run

  -- the receiver node is the one behind the plan's nodes
  no-node : (above : List Entry) → plan_node p ≡ None → IsStart (p ∷ above) → IsReceiver p
  no-node [] none starts = starts
  no-node (q ∷ above) none starts =
      at-number p.plan.nodes p.node (kinds-within p.plan is_plan p.node p.args starts.0.kinds)
      (λ node at. absurd (none-some node (sym none ∙ at))) where
        none-some : (node : Node) → None ≡ Some node → ⊥
        none-some node e = cc

  pub stands-below : (above : List Entry) → IsStart (e ∷ p ∷ above) →
      tree.is_child (tree_of p.plan.nodes) p.node e.node ≡ true
  stands-below above starts =
      let by = starts.0.under.by in
      known (plan_node p)
      (λ none.
      let receiver = no-node above none starts.1 in
      let run : IsPlainChild None e p = subst (λ o. ByNode o true e p) none by in
      let same : receiver.top ≡ e.node =
      same_Some receiver.top e.node (sym receiver.names ∙ in-option p.child e.node run.runs) in
      subst (λ n. tree.is_child (tree_of p.plan.nodes) n e.node ≡ true) (sym receiver.node)
      (((trees-show p.plan is_plan).below e.node).1 (subst (IsTop p.plan.nodes) same receiver.is_top)))
      (λ node at.
      let is = here node at (subst (λ o. ByNode o true e p) at by) in
      (((trees-show p.plan is_plan).each p.node node at).children e.node).1 is)
