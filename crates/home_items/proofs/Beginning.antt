-- How a node's children begin: what a step proves where it makes their environments.
use Rattle.std.specs.Prelude.{Contains, slice_get}
use Rattle.std.proofs.Common.{◌≡◌, ℕ, ◌+◌, ◌-◌, Bool, true, List, [], ◌∷◌, length, Option, Some, None, inl, refl, sym, subst, arith}
use Rattle.std.proofs.lemmas.Option.{same_Some}
use Rattle.exec_value.specs.Kinds.{HasKind}
use Rattle.exec_value.specs.declared.data.Datum.{Datum}
use Rattle.plan_rules.specs.declared.node.Node.{Node}
use Rattle.plan_rules.specs.declared.node.Node.TheVariants.{LetValue, LetError, LetStopped, Bulk, Part, Ahead}
use Rattle.plan_kinds.specs.Reached.{Reaches}
use Rattle.plan_kinds.specs.Built.{IsNoPart}
use Rattle.plan_kinds.proofs.Placing.{part-before}
use Rattle.plan_kinds.proofs.Kept.{plain-arguments}
use Rattle.plan_shape.specs.Forest.{IsForest}
use Rattle.plan_shape.specs.Blueprint.{Blueprint, IsPlan}
use Rattle.plan_kinds.specs.Runnable.{IsRunnable}
use Rattle.home_items.specs.declared.entry.Entry.{Entry}
use Rattle.home_items.specs.Entries.{plan_node, record_start, start_below}
use Rattle.home_items.specs.HasKinds.{HasKinds}
use Rattle.home_items.specs.Below.{run_below, asked_below, IsPlainChild, ByNode, GoesBelow}
use Rattle.plan_kinds.specs.TreeLaws.{IsSpawned}
use Rattle.home_items.specs.Starts.{IsReceiver, IsEntry, BeginsBelow}
use Rattle.home_items.specs.Fits.{FitsChild}
use Rattle.home_items.proofs.KindsBelow.{run-kinds, kinds-below, kinds-named, option-in}
use Rattle.home_items.proofs.Collecting.{receiver-none}

-- a child that runs with its parent's arguments goes on below it
by-run : (node : Node) (seen : Bool) (e p : Entry) → IsPlainChild (Some node) e p → ByNode (Some node) seen e p
by-run (LetValue child pick bodies) seen e p run = inl run
by-run (LetError child pick bodies) seen e p run = inl run
by-run (LetStopped child pick bodies) seen e p run = inl run
by-run (Bulk child job) seen e p run = inl run
by-run node seen e p run = run

-- below a node whose arguments have kinds, what goes on has kinds too
pub goes-on : (e p : Entry) → IsRunnable p.plan → HasKinds p.plan p.node p.args → (node : Node) → plan_node p ≡ Some node →
    GoesBelow true e p → IsEntry e p
goes-on e p runnable has node at under =
    record { under = under; kinds = kinds-below e p runnable has node at true under }

-- a node's child
pub run-begins : (p : Entry) (above : List Entry) → IsRunnable p.plan → HasKinds p.plan p.node p.args → (node : Node) →
    plan_node p ≡ Some node → (k : ℕ) → Contains (run_below (Some node) p) k →
    BeginsBelow (start_below k p.args [] (asked_below (Some node) p.asked) (p ∷ above))
run-begins p above runnable has node at k among =
    let e : Entry = record {
      plan = p.plan;
      node = k;
      args = p.args;
      number = p.number;
      asked = asked_below (Some node) p.asked;
      whole = [];
      child = None;
    } in
    let run : IsPlainChild (Some node) e p = record { runs = among; args = refl; asked = refl; whole = refl } in
    goes-on e p runnable has node at (record {
      plan = refl;
      number = refl;
      child = refl;
      by = subst (λ o. ByNode o true e p) (sym at) (by-run node true e p run);
    })

-- the child that a receiver node's start names
pub top-begins : (p : Entry) → IsReceiver p → FitsChild (p ∷ []) → (k : ℕ) → p.child ≡ Some k →
    BeginsBelow (start_below k p.args [] p.asked (p ∷ []))
top-begins p is fits k names =
    let e : Entry = record {
      plan = p.plan;
      node = k;
      args = p.args;
      number = p.number;
      asked = p.asked;
      whole = [];
      child = None;
    } in
    let none = receiver-none p is in
    let run : IsPlainChild None e p = record { runs = option-in p.child k names; args = refl; asked = refl; whole = refl } in
    let under : GoesBelow true e p = record {
      plan = refl;
      number = refl;
      child = refl;
      by = subst (λ o. ByNode o true e p) (sym none) run;
    } in
    record { under = under; kinds = kinds-named e p none fits true under }

-- the plan's root is no part
root-plain : (nodes : List Node) → IsForest nodes → (n : ℕ) → length nodes ≡ n + 1 → (o : Option Node) → slice_get nodes n ≡ o →
    IsNoPart o
root-plain nodes forest n last (Some (Part bulk part)) at =
    let stands = part-before nodes forest n bulk part at in omega (arith, stands.0, stands.1, last)
root-plain nodes forest n last o at = tt

-- a record of the input's kind has arguments of the root's kinds
pub record-kinds : (plan : Blueprint) → IsPlan plan → (datum : Datum) → HasKind datum plan.settings.input →
    (number : ℕ) (asked : Bool) → FitsChild (record_start plan (datum ∷ []) number asked)
record-kinds plan is_plan datum kind number asked child names =
    let same : length plan.nodes - 1 ≡ child = same_Some (length plan.nodes - 1) child names in
    let last : length plan.nodes ≡ child + 1 = omega (arith, same, is_plan.some) in
    record {
      shape = Some (plan.settings.input ∷ []);
      reached = Reaches.root last;
      kinds = plain-arguments (slice_get plan.nodes child)
          (root-plain plan.nodes is_plan.forest child last (slice_get plan.nodes child) refl)
          (Some (plan.settings.input ∷ [])) (datum ∷ []) (kind, tt);
    }

-- what an `ahead` spawns has arguments of the kinds of its own
pub spawned-kinds : (plan : Blueprint) → IsRunnable plan → (first : ℕ) (spawned : IsSpawned plan.nodes first) (args : List Datum) →
    HasKinds plan spawned.ahead args → HasKinds plan first args
spawned-kinds plan runnable first spawned args has =
    run-kinds plan runnable spawned.ahead args has (Ahead first spawned.second) spawned.node first (0, omega arith, refl)
