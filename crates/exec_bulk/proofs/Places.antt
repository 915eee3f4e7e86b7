-- Where a bulk and its parts stand in the plan and in the table's tree.
use Rattle.std.specs.Prelude.{IsTrue, slice_get}
use Rattle.std.specs.List.{range_with_len}
use Rattle.std.proofs.Common.{◌≡◌, ◌⊎◌, inl, inr, ℕ, ◌+◌, ◌<◌, ◌≤◌, true, false, [], ◌∷◌, Option, Some, None, refl, sym, ap, ◌∙◌, subst, arith}
use Rattle.std.proofs.lemmas.List.Elements.{All-head, Contains-append_cases, Contains-append_left, Contains-append_right}
use Rattle.exec_job.specs.Takes.{is_element}
use Rattle.exec_job.specs.declared.job.Job.{Job}
use Rattle.life_rules.specs.declared.event.Name.{Name}
use Rattle.node_tree.specs.Tree.{is_child, is_unstoppable, has_source}
use Rattle.plan_rules.specs.declared.node.Node.{Node}
use Rattle.plan_rules.specs.declared.node.Node.TheVariants.{Bulk, Part}
use Rattle.plan_shape.specs.Blueprint.{Blueprint, IsPlan}
use Rattle.plan_shape.specs.Forest.{IsPlaced, IsPartOf}
use Rattle.plan_shape.specs.declared.limits.TheConstants.{BULK_PARTS}
use Rattle.plan_kinds.specs.Built.{IsNoPart}
use Rattle.plan_kinds.specs.Small.{IsSmall}
use Rattle.plan_kinds.specs.TreeLaws.{ShowsNode}
use Rattle.plan_kinds.proofs.Placing.{no-member}
use Rattle.plan_kinds.proofs.Plans.{plans-built}
use Rattle.table_steps.specs.Views.{Board}
use Rattle.home_items.specs.Entries.{plan_of, node_of}
use Rattle.home_items.specs.declared.entry.Entry.{Entry}
use Rattle.exec_recv.specs.Sites.{node_at, plan_at, IsSite}
use Rattle.start_laws.specs.Nodes.{IsStartOf}
use Rattle.start_laws.proofs.Pairs.{sole}
use Rattle.step_parts.proofs.Places.{node-shown}
use Rattle.exec_bulk.specs.Kinds.{IsBulkNode}
use Rattle.exec_bulk.specs.Rows.{first_part}
use Rattle.exec_bulk.proofs.Ranges.{range-place, place-range}
use Rattle.std.specs.Prelude.{List}

-- a node of a kind
pub bulk-of : (o : Option Node) → IsBulkNode o → (child : ℕ) × (job : Job) × (o ≡ Some (Bulk child job))
bulk-of None kind = absurd kind
bulk-of (Some (Bulk child job)) kind = (child, job, refl)
bulk-of (Some node) kind = absurd kind

-- in a plan
module _ (plan : Blueprint) (is_plan : IsPlan plan) (n child : ℕ) (job : Job) (at : slice_get plan.nodes n ≡ Some (Bulk child job)) where
  abbrev placed : IsPlaced plan.nodes n (Bulk child job)
  placed = is_plan.forest.each n (Bulk child job) at

  -- the eight nodes before a bulk are its parts
  pub part-at : (part : ℕ) → part < BULK_PARTS → slice_get plan.nodes (first_part n + part) ≡ Some (Part n part)
  part-at part within = placed.parts part within

  pub bulk-behind : BULK_PARTS ≤ n
  bulk-behind =
      let first = part-at 0 (omega arith) in
      let made : IsPartOf plan.nodes (first_part n + 0) n 0 = (is_plan.forest.each (first_part n + 0) (Part n 0) first).made in
      let place = made.place in
      omega (arith, place)

  pub bulk-element : IsTrue (is_element job)
  bulk-element = placed.made

  -- and its child is none
  pub child-plain : IsNoPart (slice_get plan.nodes child)
  child-plain =
      All-head (λ k. IsNoPart (slice_get plan.nodes k)) child [] ((plans-built plan is_plan).no_parts n (Bulk child job) at)

-- a plan with a bulk, or a part of one, isn't small
pub bulk-large : (start : List Entry) (child : ℕ) (job : Job) → IsStartOf start (Bulk child job) → ¬ IsSmall (plan_of start)
bulk-large start child job of small = small.nodes_are (node_of start) (Bulk child job) of.node_is

pub part-large : (start : List Entry) (bulk part : ℕ) → IsStartOf start (Part bulk part) → ¬ IsSmall (plan_of start)
part-large start bulk part of small = small.nodes_are (node_of start) (Part bulk part) of.node_is

-- a bulk in the table
module _ (board : Board Blueprint) (x : Name) (child : ℕ) (job : Job) (site : IsSite board) (at : node_at board x ≡ Some (Bulk child job)) where
  abbrev node : Node
  node = Bulk child job

  abbrev its : ShowsNode board.frame.tree x.node node
  its = node-shown board (plan_at board) x node site.over at

  pub bulk-plain : has_source board.frame.tree x.node ≡ false
  bulk-plain = its.source

  pub bulk-open : is_unstoppable board.frame.tree x.node ≡ false
  bulk-open = its.unstoppable

  pub bulk-child : is_child board.frame.tree x.node child ≡ true
  bulk-child =
      (its.children child).1 (Contains-append_left (child ∷ []) (range_with_len (first_part x.node) BULK_PARTS) child (0, omega arith, refl), refl)

  pub bulk-parts : (part : ℕ) → part < BULK_PARTS → is_child board.frame.tree x.node (first_part x.node + part) ≡ true
  bulk-parts part within =
      let k = first_part x.node + part in
      (its.children k).1
      (Contains-append_right (child ∷ []) (range_with_len (first_part x.node) BULK_PARTS) k (place-range (first_part x.node) BULK_PARTS part within), refl)

  -- its children are these
  pub bulk-kids : (k : ℕ) → is_child board.frame.tree x.node k ≡ true →
      (k ≡ child) ⊎ ((part : ℕ) × (part < BULK_PARTS) × (k ≡ first_part x.node + part))
  bulk-kids k below =
      elim (Contains-append_cases (child ∷ []) (range_with_len (first_part x.node) BULK_PARTS) k ((its.children k).0 below).0) [
        | inl first ↦ inl (sole child k first)
        | inr rest ↦ inr (range-place (first_part x.node) BULK_PARTS k rest)
      ]

-- a part has none
pub part-kids : (board : Board Blueprint) (x : Name) (bulk part : ℕ) → IsSite board → node_at board x ≡ Some (Part bulk part) →
    (k : ℕ) → is_child board.frame.tree x.node k ≡ true → ⊥
part-kids board x bulk part site at k below =
    let both = ((node-shown board (plan_at board) x (Part bulk part) site.over at).children k).0 below in
    no-member k both.0

-- of a node of the kind, by a name and a first part that are said otherwise
module _ (board : Board Blueprint) (x y : Name) (same : y ≡ x) (kind : IsBulkNode (node_at board x)) (site : IsSite board) where
  pub kind-behind : BULK_PARTS ≤ y.node
  kind-behind =
      let bulk = bulk-of (node_at board x) kind in
      subst (λ (z : Name). BULK_PARTS ≤ z.node) (sym same) (bulk-behind (plan_at board) site.over.is_plan x.node bulk.0 bulk.1 bulk.2)

  pub kind-parts : (first part : ℕ) → first ≡ first_part y.node → part < BULK_PARTS → is_child board.frame.tree x.node (first + part) ≡ true
  kind-parts first part is within =
      let bulk = bulk-of (node_at board x) kind in
      subst (λ (n : ℕ). is_child board.frame.tree x.node (n + part) ≡ true) (sym (is ∙ ap (λ (z : Name). first_part z.node) same))
      (bulk-parts board x bulk.0 bulk.1 site bulk.2 part within)
