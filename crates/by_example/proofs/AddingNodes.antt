-- The nodes of plans that add one: their kinds match, and none wants memory.
use Rattle.std.proofs.Common.{◌≡◌, ℕ, ◌<◌, List, [], ◌∷◌, length, inl, inr, refl, sym, subst, arith}
use Rattle.std.specs.Prelude.{pos, slice_get, Contains, IsTrue, Some}
use Rattle.std.proofs.lemmas.List.Elements.{Contains-push_cases}
use Rattle.exec_job.specs.declared.job.Job.TheVariants.{Add}
use Rattle.exec_value.specs.declared.kinds.Kind.{Kind}
use Rattle.exec_value.specs.declared.kinds.Kind.TheVariants.{Int}
use Rattle.node_tree.specs.declared.context.Context.TheVariants.{Pool}
use Rattle.plan_kinds.specs.Gives.{int_alone}
use Rattle.plan_kinds.specs.Reached.{Reaches, KindsMatch}
use Rattle.plan_kinds.specs.Runs.{run_by, bodies_of}
use Rattle.plan_kinds.specs.Shapes.{Shape}
use Rattle.plan_kinds.specs.Signatures.{sig_of, kinds_match}
use Rattle.plan_kinds.specs.Small.{IsSmall, IsSmallNode, IsSmallShape}
use Rattle.plan_rules.specs.declared.node.Node.{Node}
use Rattle.plan_rules.specs.declared.node.Node.TheVariants.{Input, Then, StartsOn, Part}
use Rattle.plan_shape.specs.Blueprint.{Blueprint}

-- the nodes that such a plan may have at each place
pub data IsNode : ℕ → Node → Type 0 where
  is_input : IsNode 0 Input
  is_then : IsNode 1 (Then 0 (Add (pos 1)))
  is_start : IsNode 2 (StartsOn Pool 1)

abbrev pub AreNodes : List Node → Type 0
AreNodes nodes = (n : ℕ) (node : Node) → slice_get nodes n ≡ Some node → IsNode n node

no-member : (k : ℕ) → Contains [] k → ⊥
no-member k among = let within : among.0 < 0 = among.1 in omega (arith, within)

-- the one child is the node before, and there are no bodies and no parts
one-member : (c k : ℕ) → Contains (c ∷ []) k → k ≡ c
one-member c k among = elim (Contains-push_cases [] c k among) [
  | inl none ↦ absurd (no-member k none)
  | inr is ↦ omega (arith, is)
]

child-below : {n : ℕ} {node : Node} → IsNode n node → (k : ℕ) → Contains (run_by node) k → k < n
child-below is_input k among = absurd (no-member k among)
child-below is_then k among = let is = one-member 0 k among in omega (arith, is)
child-below is_start k among = let is = one-member 1 k among in omega (arith, is)

no-body : {n : ℕ} {node : Node} → IsNode n node → (k : ℕ) → Contains (bodies_of node) k → ⊥
no-body is_input k among = no-member k among
no-body is_then k among = no-member k among
no-body is_start k among = no-member k among

no-part : {n bulk part : ℕ} → IsNode n (Part bulk part) → ⊥
no-part is = elim is [ ]

-- so each node runs under one int
record IsRunSo (count n : ℕ) (a : Shape) : Type 0 where
  within : n < count
  shape : a ≡ int_alone

runs-so : (nodes : List Node) → AreNodes nodes → {n : ℕ} {a : Shape} → Reaches nodes Int n a → IsRunSo (length nodes) n a
runs-so nodes are {n} (Reaches.root last) = record { within = omega (arith, last); shape = refl }
runs-so nodes are (Reaches.child {n} {k} {node = node} above at among) =
    let so = runs-so nodes are above in
    let below = child-below (are n node at) k among in
    let within : n < length nodes = so.within in
    record { within = omega (arith, below, within); shape = so.shape }
runs-so nodes are (Reaches.body {n} {k} {node = node} above at among) = absurd (no-body (are n node at) k among)
runs-so nodes are (Reaches.part {n} {bulk = bulk} {number = part} at) = absurd (no-part (are n (Part bulk part) at))

small-node : {n : ℕ} {node : Node} → IsNode n node → IsSmallNode node
small-node is_input = tt
small-node is_then = tt
small-node is_start = tt

pub all-match : (nodes : List Node) → AreNodes nodes → ((n : ℕ) → n < length nodes → IsTrue (kinds_match nodes n int_alone)) →
    KindsMatch nodes Int
all-match nodes are each n a reached =
    let so = runs-so nodes are reached in
    subst (λ (s : Shape). IsTrue (kinds_match nodes n s)) (sym so.shape) (each n so.within)

pub all-small : (plan : Blueprint) → plan.settings.input ≡ Int → AreNodes plan.nodes →
    ((n : ℕ) → n < length plan.nodes → IsSmallShape (sig_of plan.nodes n int_alone).value) → IsSmall plan
all-small plan int are each = record {
  input = int;
  nodes_are = λ n node at. small-node (are n node at);
  values = λ n a reached.
      let so = runs-so plan.nodes are (subst (λ (k : Kind). Reaches plan.nodes k n a) int reached) in
      subst (λ (s : Shape). IsSmallShape (sig_of plan.nodes n s).value) (sym so.shape) (each n so.within);
}
