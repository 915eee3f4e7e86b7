-- A child that runs with its node's arguments begins with arguments of its kinds, which stand in place in a
-- small plan, but for one text.
use Rattle.std.specs.Prelude.{Contains, slice_get}
use Rattle.std.proofs.Common.{◌≡◌, ◌⊎◌, inl, inr, ℕ, suc, true, false, List, [], ◌∷◌, Option, Some, None, arith, refl, sym, ap, ◌∙◌, subst}
use Rattle.std.proofs.lemmas.List.Elements.{All-nil, All-cons, All-contains}
use Rattle.std.proofs.lemmas.Option.{same_Some}
use Rattle.common_lemmas.proofs.Options.{known}
use Rattle.exec_value.specs.Kinds.{HaveKinds}
use Rattle.exec_value.specs.Place.{IsInPlace, AreInPlace}
use Rattle.exec_value.specs.declared.data.Datum.{Datum}
use Rattle.exec_value.specs.declared.data.Datum.TheVariants.{Int, Text}
use Rattle.exec_value.specs.declared.kinds.Kind.{Kind}
use Rattle.exec_value.specs.declared.kinds.Kind.TheVariants.{Int as IntKind, Text as TextKind}
use Rattle.life_rules.specs.declared.event.Name.{Name}
use Rattle.node_tree.specs.Tree.{is_child}
use Rattle.plan_rules.specs.declared.node.Node.{Node}
use Rattle.plan_rules.specs.declared.node.Node.TheVariants.{LetValue, LetError, LetStopped, Bulk, Part, Ahead}
use Rattle.plan_rules.specs.Children.{named_by}
use Rattle.plan_shape.specs.Blueprint.{Blueprint, IsPlan}
use Rattle.plan_shape.specs.PlanTree.{tree_of}
use Rattle.plan_shape.proofs.ForestLaws.{node_at}
use Rattle.plan_kinds.specs.Built.{IsNoPart, AreArguments}
use Rattle.plan_kinds.specs.Gives.{text_alone}
use Rattle.plan_kinds.specs.Reached.{Reaches}
use Rattle.plan_kinds.specs.Runnable.{IsRunnable}
use Rattle.plan_kinds.specs.Shapes.{Shape, HasShape}
use Rattle.plan_kinds.specs.Signatures.{sig_of, own_sigs}
use Rattle.plan_kinds.specs.Small.{IsSmallShape, IsSmall}
use Rattle.plan_kinds.specs.TreeLaws.{IsTop}
use Rattle.plan_kinds.specs.Values.{body_arguments}
use Rattle.plan_kinds.proofs.Jobs.{one-int}
use Rattle.plan_kinds.proofs.Placing.{no-member, run-named}
use Rattle.plan_kinds.proofs.Plans.{plans-built}
use Rattle.plan_kinds.proofs.Roots.{last-no_part}
use Rattle.table_steps.specs.Views.{Board}
use Rattle.home_items.specs.declared.entry.Entry.{Entry}
use Rattle.home_items.specs.Below.{run_below, asked_below, IsPlainChild, ByNode}
use Rattle.home_items.specs.Entries.{plan_of, node_of, args_of, carried_by, carried_of, plan_node, start_below, start_with}
use Rattle.home_items.specs.Fits.{FitsChild}
use Rattle.home_items.specs.Starts.{BeginsBelow, IsReceiver, IsStart, NeedsNoRequest}
use Rattle.home_items.proofs.Beginning.{run-begins, top-begins}
use Rattle.home_items.proofs.Collecting.{receiver-none}
use Rattle.home_items.proofs.KindsBelow.{in-option}
use Rattle.home_items.proofs.Standing.{kinds-within, stands-below}
use Rattle.home_items.proofs.Starting.{plain-start}
use Rattle.exec_recv.specs.Over.{IsOver}
use Rattle.step_parts.specs.Starts.{RunsBelow, asked_for_child}
use Rattle.step_parts.specs.Wants.{is_text_alone}

-- the start of a child with its node's arguments
abbrev pub child_start : ℕ → List Entry → List Entry
child_start n start = start_below n (args_of start) [] (asked_for_child start) start

no-node : (node : Node) → Some node ≡ None → ⊥
no-node node e = cc

-- the child begins below
module _ (p : Entry) (n : ℕ) (runnable : IsRunnable p.plan) where
  abbrev Begins : List Entry → Type 0
  Begins above = BeginsBelow (child_start n (p ∷ above))

  begins-node : (above : List Entry) → IsStart (p ∷ above) → (node : Node) → plan_node p ≡ Some node → RunsBelow (p ∷ above) n → Begins above
  begins-node [] is node at runs = absurd (no-node node (sym at ∙ receiver-none p is))
  begins-node (q ∷ above) is node at runs =
      subst (λ (o : Option Node). BeginsBelow (start_below n p.args [] (asked_below o p.asked) (p ∷ q ∷ above))) (sym at)
      (run-begins p (q ∷ above) runnable is.0.kinds node at n (subst (λ (o : Option Node). Contains (run_below o p) n) at runs))

  begins-top : (above : List Entry) → IsStart (p ∷ above) → FitsChild (p ∷ above) → plan_node p ≡ None → RunsBelow (p ∷ above) n → Begins above
  begins-top [] is fits none runs =
      subst (λ (o : Option Node). BeginsBelow (start_below n p.args [] (asked_below o p.asked) (p ∷ []))) (sym none)
      (top-begins p is fits n (in-option p.child n (subst (λ (o : Option Node). Contains (run_below o p) n) none runs)))
  begins-top (q ∷ above) is fits none runs =
      node_at p.plan.nodes p.node (kinds-within p.plan runnable.plan_is p.node p.args is.0.kinds)
      (λ node at. absurd (no-node node (sym at ∙ none)))

pub child-begins : (start : List Entry) (n : ℕ) → IsStart start → IsRunnable (plan_of start) → FitsChild start → RunsBelow start n →
    BeginsBelow (child_start n start)
child-begins [] n is runnable fits runs = absurd is
child-begins (p ∷ above) n is runnable fits runs =
    known (plan_node p) (λ none. begins-top p n runnable above is fits none runs)
    (λ node at. begins-node p n runnable above is node at runs)

-- and rests on no request
by-plain : (parent : Option Node) (e p : Entry) → IsPlainChild parent e p → ByNode parent false e p
by-plain (Some (LetValue child pick bodies)) e p run = inl run
by-plain (Some (LetError child pick bodies)) e p run = inl run
by-plain (Some (LetStopped child pick bodies)) e p run = inl run
by-plain (Some (Bulk child job)) e p run = inl run
by-plain parent e p run = run

pub plain-below : (start : List Entry) (n : ℕ) → RunsBelow start n → NeedsNoRequest (child_start n start)
plain-below [] n runs = absurd runs
plain-below (p ∷ above) n runs =
    let e : Entry = record {
      plan = p.plan;
      node = n;
      args = p.args;
      number = p.number;
      asked = asked_below (plan_node p) p.asked;
      whole = [];
      child = None;
    } in
    record {
      plan = refl;
      number = refl;
      child = refl;
      by = by-plain (plan_node p) e p (record { runs = runs; args = refl; asked = refl; whole = refl });
    }

-- and stands there in the plan's tree
pub child-stands : (board : Board Blueprint) (plan : Blueprint) (x : Name) (start : List Entry) (n : ℕ) → IsOver board plan → plan_of start ≡ board.frame.over.value →
    node_of start ≡ x.node → IsStart start → BeginsBelow (child_start n start) → is_child board.frame.tree x.node n ≡ true
child-stands board plan x [] n over key node is begins = absurd is
child-stands board plan x (p ∷ above) n over key node is begins =
    let same : p.plan ≡ plan = key ∙ over.over in
    let tree : tree_of p.plan.nodes ≡ board.frame.tree = ap (λ (b : Blueprint). tree_of b.nodes) same ∙ sym over.tree in
    let e : Entry = record {
      plan = p.plan;
      node = n;
      args = p.args;
      number = p.number;
      asked = asked_below (plan_node p) p.asked;
      whole = [];
      child = None;
    } in
    subst (λ k. is_child board.frame.tree k n ≡ true) node
    (subst (λ t. is_child t p.node n ≡ true) tree
    (stands-below e p (subst (λ (b : Blueprint). IsPlan b) (sym same) over.is_plan) above (begins, is)))

-- data that stand in place
none-in_place : AreInPlace []
none-in_place = record { few = omega arith; each = All-nil IsInPlace }

one-in_place : (datum : Datum) → IsInPlace datum → AreInPlace (datum ∷ [])
one-in_place datum place = record { few = omega arith; each = All-cons IsInPlace datum [] place (All-nil IsInPlace) }

pub shape-in_place : (shape : Shape) → IsSmallShape shape → (values : List Datum) → HasShape values shape → AreInPlace values
shape-in_place None small values have = absurd have
shape-in_place (Some []) small [] have = none-in_place
shape-in_place (Some []) small (x ∷ xs) have = absurd have
shape-in_place (Some (IntKind ∷ [])) small values have =
    let one = one-int values have in subst AreInPlace (sym one.1) (one-in_place (Int one.0) tt)
shape-in_place shape small values have = absurd small

one-text : (values : List Datum) → HaveKinds values (TextKind ∷ []) → (bytes : List ℕ) × (values ≡ Text bytes ∷ [])
one-text [] have = absurd have
one-text (Text bytes ∷ []) have = (bytes, refl)
one-text (datum ∷ []) have = absurd have.0
one-text (datum ∷ next ∷ values) have = absurd have.1

-- in a small plan nodes run with data of a small shape, or with the name of an error
module _ (plan : Blueprint) (small : IsSmall plan) where
  body-small : (node : Node) (n : ℕ) (a : Shape) → Reaches plan.nodes plan.settings.input n a → slice_get plan.nodes n ≡ Some node →
      IsSmallShape (body_arguments node (own_sigs (sig_of plan.nodes) node a))
      ⊎ (body_arguments node (own_sigs (sig_of plan.nodes) node a) ≡ text_alone)
  body-small (LetValue child pick bodies) n a reached at =
      inl (small.values child a (Reaches.child reached at (0, omega arith, refl)))
  body-small (LetError child pick bodies) n a reached at = inr refl
  body-small (LetStopped child pick bodies) n a reached at = inl tt
  body-small node n a reached at = inl tt

  shape-small : {n : ℕ} {a : Shape} → Reaches plan.nodes plan.settings.input n a → IsSmallShape a ⊎ (a ≡ text_alone)
  shape-small (Reaches.root last) = inl (subst (λ (k : Kind). IsSmallShape (Some (k ∷ []))) (sym small.input) tt)
  shape-small (Reaches.child reached at among) = shape-small reached
  shape-small (Reaches.body {n} {k} {node} {a} reached at among) = body-small node n a reached at
  shape-small (Reaches.part {n} {bulk} {number} at) = absurd (small.nodes_are n (Part bulk number) at)

  pub plain-small : (n : ℕ) (o : Option Node) → slice_get plan.nodes n ≡ o → (a : Shape) (values : List Datum) → AreArguments o a values →
      HasShape values a
  plain-small n (Some (Part bulk part)) at a values have = absurd (small.nodes_are n (Part bulk part) at)
  plain-small n o at a values have = have

  args-small : (n : ℕ) (a : Shape) → Reaches plan.nodes plan.settings.input n a → (values : List Datum) → AreArguments (slice_get plan.nodes n) a values →
      AreInPlace values ⊎ ((bytes : List ℕ) × (values ≡ Text bytes ∷ []))
  args-small n a reached values have =
      let shape = plain-small n (slice_get plan.nodes n) refl a values have in
      elim (shape-small reached) [
        | inl in_place ↦ inl (shape-in_place a in_place values shape)
        | inr text ↦ inr (one-text values (subst (λ (s : Shape). HasShape values s) text shape))
      ]

-- so a child's arguments stand in place there, or are one text
small-child : (start : List Entry) (n : ℕ) → BeginsBelow (child_start n start) → IsSmall (plan_of start) →
    AreInPlace (args_of start) ⊎ (is_text_alone (args_of start) ≡ true)
small-child [] n begins small = absurd begins
small-child (p ∷ above) n begins small =
    let kinds = begins.kinds in
    elim (args-small p.plan small n kinds.shape kinds.reached p.args kinds.kinds) [
      | inl in_place ↦ inl in_place
      | inr text ↦ inr (ap is_text_alone text.1)
    ]

-- A child that runs with its node's arguments is no part, and neither is the node.
named-run : (node : Node) (p : Entry) (n : ℕ) → Contains (run_below (Some node) p) n → Contains (named_by node) n
named-run (Ahead first second) p n runs = let i = runs.0 in (suc i, omega (arith, runs.1), runs.2)
named-run node p n runs = run-named node n runs

named-plain : (plan : Blueprint) → IsPlan plan → (k : ℕ) (node : Node) → slice_get plan.nodes k ≡ Some node → (n : ℕ) → Contains (named_by node) n →
    IsNoPart (slice_get plan.nodes n)
named-plain plan is k node at n among =
    All-contains (λ i. IsNoPart (slice_get plan.nodes i)) (named_by node) n ((plans-built plan is).no_parts k node at) among

top-plain : (plan : Blueprint) → IsPlan plan → (n : ℕ) → IsTop plan.nodes n → IsNoPart (slice_get plan.nodes n)
top-plain plan is n (inl last) = last-no_part plan is n (sym last) (slice_get plan.nodes n) refl
top-plain plan is n (inr spawned) =
    named-plain plan is spawned.ahead (Ahead n spawned.second) spawned.node n (0, omega arith, refl)

module _ (p : Entry) (n : ℕ) (is_plan : IsPlan p.plan) where
  receiver-plain : IsReceiver p → p.child ≡ Some n → IsNoPart (slice_get p.plan.nodes n)
  receiver-plain is names =
      top-plain p.plan is_plan n (subst (IsTop p.plan.nodes) (same_Some is.top n (sym is.names ∙ names)) is.is_top)

  none-plain : (above : List Entry) → IsStart (p ∷ above) → plan_node p ≡ None → Contains (run_below (plan_node p) p) n →
      IsNoPart (slice_get p.plan.nodes n)
  none-plain [] is none runs =
      receiver-plain is (in-option p.child n (subst (λ (o : Option Node). Contains (run_below o p) n) none runs))
  none-plain (q ∷ above) is none runs =
      node_at p.plan.nodes p.node (kinds-within p.plan is_plan p.node p.args is.0.kinds)
      (λ node at. absurd (no-node node (sym at ∙ none)))

pub runs-plain : (start : List Entry) (n : ℕ) → IsStart start → IsPlan (plan_of start) → RunsBelow start n →
    IsNoPart (slice_get (plan_of start).nodes n)
runs-plain [] n is is_plan runs = absurd runs
runs-plain (p ∷ above) n is is_plan runs =
    known (plan_node p) (λ none. none-plain p n is_plan above is none runs)
    (λ node at.
    named-plain p.plan is_plan p.node node at n
    (named-run node p n (subst (λ (o : Option Node). Contains (run_below o p) n) at runs)))

runs-own : (o : Option Node) (p : Entry) (n : ℕ) → Contains (run_below o p) n → carried_by o p ≡ p.args
runs-own (Some (Part bulk part)) p n runs = no-member n runs
runs-own o p n runs = refl

-- what such a node runs with are its arguments
pub runs-carried : (start : List Entry) (n : ℕ) → RunsBelow start n → carried_of start ≡ args_of start
runs-carried [] n runs = absurd runs
runs-carried (p ∷ above) n runs = runs-own (plan_node p) p n runs

-- The child's start, as a step makes it.
module _ (start : List Entry) (n : ℕ) (is : IsStart start) (runnable : IsRunnable (plan_of start)) (runs : RunsBelow start n) where
  abbrev pub run_start : List Entry
  run_start = start_with n (carried_of start) (asked_for_child start) start

  pub run-is : run_start ≡ child_start n start
  run-is =
      plain-start n (carried_of start) (asked_for_child start) start (runs-plain start n is runnable.plan_is runs)
      ∙ ap (λ (args : List Datum). start_below n args [] (asked_for_child start) start) (runs-carried start n runs)

  pub runs-begin : FitsChild start → BeginsBelow run_start
  runs-begin fits = subst BeginsBelow (sym run-is) (child-begins start n is runnable fits runs)

  pub runs-calm : NeedsNoRequest run_start
  runs-calm = subst NeedsNoRequest (sym run-is) (plain-below start n runs)

  -- in a small plan the node's arguments stand in place, or are one text
  pub runs-small : FitsChild start → IsSmall (plan_of start) → AreInPlace (carried_of start) ⊎ (is_text_alone (carried_of start) ≡ true)
  runs-small fits small =
      subst (λ (args : List Datum). AreInPlace args ⊎ (is_text_alone args ≡ true)) (sym (runs-carried start n runs))
      (small-child start n (child-begins start n is runnable fits runs) small)
