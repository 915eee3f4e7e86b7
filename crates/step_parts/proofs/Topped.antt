-- In a small plan the receiver node's child runs with one number, which stands in place.
use Rattle.std.specs.Prelude.{slice_get}
use Rattle.std.proofs.Common.{◌≡◌, ◌⊎◌, inl, inr, ℕ, ◌+◌, Bool, true, List, [], ◌∷◌, length, Some, None, arith, refl, sym, ap, ◌∙◌, subst}
use Rattle.std.proofs.lemmas.Bool.{eqb-true}
use Rattle.std.proofs.lemmas.Option.{slice_get_within}
use Rattle.exec_value.specs.Place.{AreInPlace}
use Rattle.exec_value.specs.declared.kinds.Kind.{Kind}
use Rattle.exec_value.specs.declared.outcome.Completion.TheVariants.{NoMemory}
use Rattle.node_tree.specs.Tree.{is_root}
use Rattle.plan_rules.specs.declared.node.Node.{Node}
use Rattle.plan_rules.specs.declared.node.Node.TheVariants.{Ahead}
use Rattle.plan_shape.specs.Blueprint.{Blueprint, IsPlan}
use Rattle.plan_shape.specs.Forest.{IsForest}
use Rattle.plan_kinds.specs.Reached.{Reaches}
use Rattle.plan_kinds.specs.Shapes.{Shape}
use Rattle.plan_kinds.specs.Small.{IsSmallShape, IsSmall}
use Rattle.plan_kinds.specs.TreeLaws.{IsSpawned}
use Rattle.plan_kinds.proofs.Placing.{run-named, body-named, before, part-before}
use Rattle.plan_kinds.proofs.Trees.{trees-show}
use Rattle.table_steps.specs.Views.{Board}
use Rattle.home_items.specs.declared.entry.Entry.{Entry}
use Rattle.home_items.specs.Entries.{plan_of, args_of, carried_of, node_of}
use Rattle.home_items.specs.Fits.{FitsChild}
use Rattle.home_items.specs.Starts.{IsReceiver, IsStart}
use Rattle.home_items.proofs.Standing.{kinds-within}
use Rattle.exec_recv.specs.Seats.{HandSeat}
use Rattle.exec_recv.specs.Sites.{plan_at}
use Rattle.step_parts.specs.Leaves.{MayLeave}
use Rattle.step_parts.specs.Starts.{MayRun}
use Rattle.step_parts.specs.Stepping.{Stepping}
use Rattle.step_parts.proofs.RunKinds.{shape-in_place, plain-small, runs-carried}

-- the plan's root is reached with the input alone
root-shape : (nodes : List Node) (input : Kind) → IsForest nodes → {n : ℕ} {a : Shape} → Reaches nodes input n a → n + 1 ≡ length nodes →
    a ≡ Some (input ∷ [])
root-shape nodes input forest (Reaches.root at) last = refl
root-shape nodes input forest (Reaches.child {n} {k} {node} reached at among) last =
    let less = before nodes forest n k node at (run-named node k among) in
    let within = slice_get_within nodes n node at in
    absurd (omega (arith, less, within, last))
root-shape nodes input forest (Reaches.body {n} {k} {node} reached at among) last =
    let less = before nodes forest n k node at (body-named node k among) in
    let within = slice_get_within nodes n node at in
    absurd (omega (arith, less, within, last))
root-shape nodes input forest (Reaches.part {n} {bulk} {number} at) last =
    let stands = part-before nodes forest n bulk number at in absurd (omega (arith, stands.0, stands.1, last))

-- so the arguments of a start of the receiver node stand in place
receiver-in_place : (p : Entry) → IsReceiver p → IsPlan p.plan → FitsChild (p ∷ []) → IsSmall p.plan → AreInPlace p.args
receiver-in_place p is is_plan fits small =
    let kinds = fits is.top is.names in
    let shape : kinds.shape ≡ Some (p.plan.settings.input ∷ []) =
    root-shape p.plan.nodes p.plan.settings.input is_plan.forest kinds.reached (top-is is.is_top) in
    shape-in_place kinds.shape
    (subst (λ (s : Shape). IsSmallShape s) (sym shape) (subst (λ (k : Kind). IsSmallShape (Some (k ∷ []))) (sym small.input) tt)) p.args
    (plain-small p.plan small is.top (slice_get p.plan.nodes is.top) refl kinds.shape p.args kinds.kinds)
  where
    top-is : (is.top + 1 ≡ length p.plan.nodes) ⊎ IsSpawned p.plan.nodes is.top → is.top + 1 ≡ length p.plan.nodes
    top-is (inl last) = last
    top-is (inr spawned) = absurd (small.nodes_are spawned.ahead (Ahead is.top spawned.second) spawned.node)

-- the start of the receiver node is one entry
root-start : (start : List Entry) → IsStart start → IsPlan (plan_of start) → node_of start ≡ length (plan_of start).nodes → FitsChild start →
    IsSmall (plan_of start) → AreInPlace (args_of start)
root-start [] is is_plan node fits small = absurd is
root-start (p ∷ []) is is_plan node fits small = receiver-in_place p is is_plan fits small
root-start (p ∷ q ∷ above) is is_plan node fits small =
    let within = kinds-within p.plan is_plan p.node p.args is.0.kinds in absurd (omega (arith, within, node))

none-known : None ≡ Some NoMemory → ⊥
none-known e = cc

-- where there is no memory for the child's arguments, the receiver node may be left with its start alone
pub top-leaves : (board : Board Blueprint) (t : Stepping) (n : ℕ) (asked : Bool) (hand : HandSeat) → is_root board.frame.tree t.name.node ≡ true →
    MayRun board t n asked hand → (AreInPlace (carried_of t.start) → ⊥) → MayLeave board t None hand
top-leaves board t n asked hand root may none =
    let over = may.taken.site.over in
    let plan = plan_at board in
    let same : plan_of t.start ≡ plan = may.few.is.key in
    let size : length board.frame.tree ≡ length plan.nodes + 1 = ap length over.tree ∙ (trees-show plan over.is_plan).size in
    let last : t.name.node + 1 ≡ length board.frame.tree = eqb-true (t.name.node + 1) (length board.frame.tree) root in
    let nodes : length (plan_of t.start).nodes ≡ length plan.nodes = ap (λ (b : Blueprint). length b.nodes) same in
    let own = may.few.is.node in
    record {
      keep = record { taken = may.taken; few = may.few; child = tt; saw = λ e. refl; small = λ small. none-known };
      rests = record {
        rest = tt;
        kept = λ small at.
            absurd (none
            (subst AreInPlace (sym (runs-carried t.start n may.runs))
            (root-start t.start may.taken.start_is (subst (λ (b : Blueprint). IsPlan b) (sym same) over.is_plan)
            (omega (arith, size, last, nodes, own)) may.few.is.kinds small)));
      };
    }
