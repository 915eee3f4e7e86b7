-- Where the children of a node stand in the plan's tree.
use Rattle.std.specs.Prelude.{Contains, slice_get}
use Rattle.std.specs.List.{range_with_len}
use Rattle.std.proofs.Common.{◌≡◌, ℕ, ◌-◌, ◌<◌, true, false, List, [], ◌∷◌, length, Some, inl, inr, refl, sym, ◌∙◌, subst, arith}
use Rattle.std.proofs.lemmas.Bool.{eqb-true}
use Rattle.std.proofs.lemmas.List.Elements.{Contains-append_left, Contains-append_right}
use Rattle.std.proofs.lemmas.Map.Views.{Contains-from_any}
use Rattle.std.proofs.lemmas.Option.{same_Some, slice_get_within}
use Rattle.exec_job.specs.declared.job.Job.{Job}
use Rattle.node_tree.specs.Tree.{is_child}
use Rattle.plan_rules.specs.declared.node.Node.{Node}
use Rattle.plan_rules.specs.declared.node.Node.TheVariants.{LetValue, LetError, LetStopped, Bulk, Part, Ahead}
use Rattle.plan_rules.specs.Children.{named_by}
use Rattle.plan_kinds.specs.Runs.{bodies_of}
use Rattle.plan_kinds.specs.TreeLaws.{IsTop}
use Rattle.plan_kinds.proofs.Placing.{before, run-named, body-named, part-before, no-member}
use Rattle.plan_kinds.proofs.Runnable.{first}
use Rattle.plan_kinds.proofs.Trees.{trees-show}
use Rattle.plan_shape.specs.Blueprint.{IsPlan}
use Rattle.plan_shape.specs.Children.{children_of}
use Rattle.plan_shape.specs.Forest.{IsForest, IsPartOf}
use Rattle.plan_shape.specs.declared.limits.TheConstants.{BULK_PARTS}
use Rattle.plan_shape.proofs.ListLemmas.{range_member}
use Rattle.plan_shape.specs.PlanTree.{spawns, tree_of}
use Rattle.home_items.specs.declared.entry.Entry.{Entry}
use Rattle.home_items.specs.Entries.{plan_of, node_of, child_of}
use Rattle.home_items.specs.Below.{asked_below}
use Rattle.home_items.specs.Starts.{IsReceiverStart}
use Rattle.home_items.proofs.Standing.{stands-below}
use Rattle.start_laws.specs.Nodes.{IsStartOf, plain_children}
use Rattle.start_laws.specs.HoldingLaws.{StandsBelow, ChildrenStand}
use Rattle.start_laws.proofs.Pairs.{none-some, plain-run}
use Rattle.start_laws.proofs.Begun.{entry_below, children-begin}

-- what a node names has a smaller number
named-smaller : (start : List Entry) (node : Node) → IsStartOf start node → (child : ℕ) → Contains (named_by node) child →
    child < node_of start
named-smaller start node at child among =
    before (plan_of start).nodes at.runnable.plan_is.forest (node_of start) child node at.node_is among

-- a child that runs with its parent's arguments: where its start would stand
plain-child : (start : List Entry) (node : Node) → IsStartOf start node → (child : ℕ) → Contains (plain_children node) child →
    is_child (tree_of (plan_of start).nodes) (node_of start) child ≡ true
plain-child [] node at child among = none-some at.node_is
plain-child (p ∷ above) node at child among =
    let begins = (children-begin.below (p ∷ above) node at child among true).begins in
    stands-below (entry_below p child (asked_below (Some node) p.asked)) p at.runnable.plan_is above (begins, at.start_is)

plain-stands : (start : List Entry) (node : Node) → IsStartOf start node → (child : ℕ) → Contains (plain_children node) child →
    StandsBelow start child
plain-stands start node at child among = record {
  smaller = named-smaller start node at child (run-named node child (plain-run node child among));
  is_child = plain-child start node at child among;
}

-- a let spawns none
spawns-none : (node : Node) (body : ℕ) → Contains (bodies_of node) body → spawns body node ≡ false
spawns-none (LetValue x pick xs) body among = refl
spawns-none (LetError x pick xs) body among = refl
spawns-none (LetStopped x pick xs) body among = refl
spawns-none node body among = no-member body among

body-stands : (start : List Entry) (node : Node) → IsStartOf start node → (body : ℕ) → Contains (bodies_of node) body →
    StandsBelow start body
body-stands start node at body among =
    let shows = (trees-show (plan_of start) at.runnable.plan_is).each (node_of start) node at.node_is in
    let named = body-named node body among in
    let here : Contains (children_of (node_of start) node) body = Contains-append_left (named_by node) _ body named in
    record {
      smaller = named-smaller start node at body named;
      is_child = (shows.children body).1 (here, spawns-none node body among);
    }

part-stands : (start : List Entry) (child : ℕ) (job : Job) → IsStartOf start (Bulk child job) → (n part : ℕ) →
    slice_get (plan_of start).nodes n ≡ Some (Part (node_of start) part) → StandsBelow start n
part-stands start child job at n part here =
    let plan = plan_of start in
    let bulk = node_of start in
    let node : Node = Bulk child job in
    let forest = at.runnable.plan_is.forest in
    let made : IsPartOf plan.nodes n bulk part = (forest.each n (Part bulk part) here).made in
    let parts : List ℕ = range_with_len (bulk - BULK_PARTS) BULK_PARTS in
    let among : Contains (children_of bulk node) n =
    Contains-append_right (child ∷ []) parts n
    (Contains-from_any eqb-true n parts
    (range_member (bulk - BULK_PARTS) BULK_PARTS n (omega (arith, made.place, made.within))
    (omega (arith, made.place, made.within)))) in
    record {
      smaller = (part-before plan.nodes forest n bulk part here).0;
      is_child = (((trees-show plan at.runnable.plan_is).each bulk node at.node_is).children n).1 (among, refl);
    }

-- what an operation runs has a smaller number than the receiver node
top-smaller : (nodes : List Node) → IsForest nodes → (child : ℕ) → IsTop nodes child → child < length nodes
top-smaller nodes forest child (inl last) = omega (arith, last)
top-smaller nodes forest child (inr spawned) =
    let below = before nodes forest spawned.ahead child (Ahead child spawned.second) spawned.node
    (first child (spawned.second ∷ [])) in
    omega (arith, below, slice_get_within nodes spawned.ahead (Ahead child spawned.second) spawned.node)

top-stands : (start : List Entry) → IsReceiverStart start → IsPlan (plan_of start) → (child : ℕ) → child_of start ≡ Some child →
    StandsBelow start child
top-stands [] is is_plan child names = absurd is
top-stands (e ∷ p ∷ above) is is_plan child names = absurd is
top-stands (e ∷ []) is is_plan child names =
    let same : is.top ≡ child = same_Some is.top child (sym is.names ∙ names) in
    let top : IsTop e.plan.nodes child = subst (IsTop e.plan.nodes) same is.is_top in
    record {
      smaller = subst (λ n. child < n) (sym is.node) (top-smaller e.plan.nodes is_plan.forest child top);
      is_child = subst (λ n. is_child (tree_of e.plan.nodes) n child ≡ true) (sym is.node)
          (((trees-show e.plan is_plan).below child).1 top);
    }

pub children-stand : ChildrenStand
children-stand = record { plain = plain-stands; body = body-stands; part = part-stands; top = top-stands }
