-- A node's signature is that of its case.
use Rattle.std.specs.Prelude.{All}
use Rattle.std.proofs.Common.{◌≡◌, ℕ, ◌<◌, ◌≤◌, List, [], ◌∷◌, length, refl, ap, ap₂, ◌∙◌}
use Rattle.plan_rules.specs.Children.{named_by}
use Rattle.plan_rules.specs.declared.node.Node.{Node}
use Rattle.plan_laws.proofs.Tables.{by_first, node-at, node-past, first-same}
use Rattle.plan_laws.proofs.Children.{head-of, tail-of}
use Rattle.plan_kinds.specs.declared.sig.Sig.{Sig}
use Rattle.plan_kinds.specs.Shapes.{Shape}
use Rattle.plan_kinds.specs.Runs.{run_by, bodies_of}
use Rattle.plan_kinds.specs.Values.{no_node, body_arguments}
use Rattle.plan_kinds.specs.Signatures.{Signatures, sigs_at, own_sigs, sig_by, sig_case, sig_of}
use Rattle.plan_kinds.specs.Laws.{SignedByCase}
use Rattle.plan_kinds.proofs.Running.{run-of, bodies-of}

module _ (These : ℕ → Type 0) (first second : Signatures) (same : (k : ℕ) → These k → first k ≡ second k) where
  sigs-same : (xs : List ℕ) → All These xs → (a : Shape) → sigs_at first xs a ≡ sigs_at second xs a
  sigs-same [] all a = refl
  sigs-same (x ∷ xs) all a =
      ap₂ ◌∷◌ (ap (λ (f : Shape → Sig). f a) (same x (head-of These x xs all)))
      (sigs-same xs (tail-of These x xs all) a)

  case-same : (nodes : List Node) (node : Node) → All These (named_by node) → (a : Shape) →
      sig_case nodes node first a ≡ sig_case nodes node second a
  case-same nodes node all a =
      let own : List Sig = own_sigs first node a in
      let bodies : List ℕ = bodies_of node in
      ap (sig_by nodes node a own) (sigs-same bodies (bodies-of These node all) (body_arguments node own))
      ∙ ap (λ (sigs : List Sig). sig_by nodes node a sigs (sigs_at second bodies (body_arguments node sigs)))
      (sigs-same (run_by node) (run-of These node all) a)

-- a number that is no node's
pub sig-past : (nodes : List Node) (n : ℕ) → length nodes ≤ n → (a : Shape) → sig_of nodes n a ≡ no_node
unfolding sig_of
sig-past nodes n past a =
    ap (λ (f : Shape → Sig). f a) (node-past (λ _. no_node) (sig_case nodes) nodes n past)

pub signed-by-case : SignedByCase
unfolding sig_of
signed-by-case nodes ordered n node at a =
    let dull : Shape → Sig = λ _. no_node in
    let first : Signatures = by_first dull (sig_case nodes) nodes n in
    let second : Signatures = λ k b. sig_of nodes k b in
    ap (λ (f : Shape → Sig). f a) (node-at dull (sig_case nodes) nodes n node at)
    ∙ case-same (λ k. k < n) first second
    (λ k before. first-same dull (sig_case nodes) nodes n k node at before)
    nodes node (ordered n node at) a
