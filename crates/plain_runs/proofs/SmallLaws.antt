-- When a plan is small.
use Rattle.std.proofs.Common.{◌≡◌, ◌≢◌, ℕ, ◌+◌, ◌<◌, List, length, Some, slice_get, sym, ap, ◌∙◌, subst, inl, inr, arith}
use Rattle.std.proofs.lemmas.Bool.{cases_eq}
use Rattle.std.proofs.lemmas.Option.{same_Some, slice_get_within}
use Rattle.exec_value.specs.declared.kinds.Kind.TheVariants.{Int}
use Rattle.plan_rules.specs.declared.node.Node.{Node}
use Rattle.plan_kinds.specs.declared.sig.Sig.{Sig}
use Rattle.plan_kinds.specs.Signatures.{sig_of}
use Rattle.plan_kinds.proofs.OneShape.{run-under_one_shape}
use Rattle.plan_kinds.specs.Small.{IsSmall, IsSmallNode, IsSmallShape}
use Rattle.plan_shape.specs.Blueprint.{Blueprint, IsPlan}
use Rattle.sig_check.specs.Checked.{AreSignatures}

-- the first nodes are no parts and no `ahead`, and have small values
pub record AreSmall (nodes : List Node) (sigs : List Sig) (count : ℕ) : Type 0 where
  pub nodes_are : (n : ℕ) (node : Node) → n < count → slice_get nodes n ≡ Some node → IsSmallNode node
  pub values : (n : ℕ) (sig : Sig) → n < count → slice_get sigs n ≡ Some sig → IsSmallShape sig.value

-- none so far
pub AreSmall-none : (nodes : List Node) (sigs : List Sig) → AreSmall nodes sigs 0
AreSmall-none nodes sigs = record { nodes_are = λ n node less. absurd (omega arith); values = λ n sig less. absurd (omega arith) }

-- one more
pub AreSmall-more : {nodes : List Node} {sigs : List Sig} {count : ℕ} (node : Node) (sig : Sig) → AreSmall nodes sigs count → slice_get nodes count ≡ Some node → slice_get sigs count ≡ Some sig → IsSmallNode node → IsSmallShape sig.value → AreSmall nodes sigs (count + 1)
AreSmall-more {nodes = nodes} {sigs = sigs} {count = count} node sig small node_is sig_is here value = record {
  nodes_are = λ n other less is. elim (cases_eq n count) [
    | inl same ↦ subst IsSmallNode (same_Some node other (sym node_is ∙ ap (slice_get nodes) (sym same) ∙ is)) here
    | inr apart ↦ small.nodes_are n other (below n less apart) is
  ];
  values = λ n other less is. elim (cases_eq n count) [
    | inl same ↦ subst (λ (s : Sig). IsSmallShape s.value) (same_Some sig other (sym sig_is ∙ ap (slice_get sigs) (sym same) ∙ is)) value
    | inr apart ↦ small.values n other (below n less apart) is
  ];
}
  where
    below : (n : ℕ) → n < count + 1 → n ≢ count → n < count
    below n less apart = omega arith

-- all are small, and so is the plan
pub small-all : (plan : Blueprint) (sigs : List Sig) (count : ℕ) → AreSignatures plan sigs → plan.settings.input ≡ Int → AreSmall plan.nodes sigs count → count ≡ length plan.nodes → IsSmall plan
small-all plan sigs count signatures int small all = record {
  input = int;
  nodes_are = λ n node is. small.nodes_are n node (omega (arith, slice_get_within plan.nodes n node is, all)) is;
  values = λ n a reaches.
      let is = signatures.each n a reaches in
      small.values n (sig_of plan.nodes n a) (omega (arith, slice_get_within sigs n (sig_of plan.nodes n a) is, signatures.size, all)) is;
}

-- a node whose value isn't small keeps the plan from being so
pub large-value : (plan : Blueprint) (sigs : List Sig) (n : ℕ) (sig : Sig) → IsPlan plan → AreSignatures plan sigs → n < length plan.nodes → slice_get sigs n ≡ Some sig → (IsSmallShape sig.value → ⊥) → IsSmall plan → ⊥
large-value plan sigs n sig is_plan signatures within is large small =
    let shape = run-under_one_shape plan is_plan n within in
    let same = same_Some (sig_of plan.nodes n shape.0) sig (sym (signatures.each n shape.0 shape.1) ∙ is) in
    large (subst (λ (s : Sig). IsSmallShape s.value) same (small.values n shape.0 shape.1))
