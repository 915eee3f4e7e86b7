-- Kinds are kept, by the number of the node.
use Rattle.std.specs.Prelude.{Contains, Option, Some, slice_get}
use Rattle.std.specs.Option.{option_map_or}
use Rattle.std.proofs.Common.{◌≡◌, ℕ, zero, suc, ◌<◌, true, IsTrue, List, refl, sym, subst, inl, inr, arith}
use Rattle.std.proofs.lemmas.Option.{slice_get_cases}
use Rattle.std.proofs.lemmas.List.Elements.{All-contains, All-contains_itself, All-weaker}
use Rattle.exec_value.specs.declared.kinds.Kind.{Kind}
use Rattle.exec_value.specs.declared.data.Datum.{Datum}
use Rattle.exec_value.specs.declared.outcome.Completion.{Completion}
use Rattle.plan_rules.specs.declared.node.Node.{Node}
use Rattle.plan_rules.specs.declared.node.Node.TheVariants.{Part}
use Rattle.plan_rules.specs.declared.stop.StopState.{StopState}
use Rattle.plan_rules.specs.Allowed.{Meaning, Case, Allowed}
use Rattle.plan_laws.proofs.Tables.{node-past}
use Rattle.plan_laws.proofs.Steps.{absent, allowed-by-case}
use Rattle.plan_kinds.specs.declared.sig.Sig.{Sig}
use Rattle.plan_kinds.specs.Shapes.{Shape, HasShape}
use Rattle.plan_kinds.specs.Runs.{run_by, bodies_of}
use Rattle.plan_kinds.specs.Values.{no_node, body_arguments}
use Rattle.plan_kinds.specs.Signatures.{own_sigs, sig_of, matches, Fits}
use Rattle.plan_kinds.specs.Reached.{Reaches, KindsMatch}
use Rattle.plan_kinds.specs.Built.{IsBuilt, IsNoPart, AreArguments}
use Rattle.plan_kinds.specs.Laws.{KindsKept}
use Rattle.plan_kinds.proofs.Running.{run-of, bodies-of}
use Rattle.plan_kinds.proofs.Signed.{sig-past, signed-by-case}
use Rattle.plan_kinds.proofs.Cases.{Keeps, case-keeps}

-- a node that is no part runs with any data of the shape
pub plain-arguments : (o : Option Node) → IsNoPart o → (a : Shape) (values : List Datum) → HasShape values a →
    AreArguments o a values
plain-arguments (Some (Part bulk part)) plain a values have = absurd plain
plain-arguments o plain a values have = have

module _ (nodes : List Node) (input : Kind) (built : IsBuilt nodes) (matched : KindsMatch nodes input) (r : ℕ) where
  abbrev allowed : ℕ → Meaning
  allowed k b s d = Allowed nodes k b r s d

  kept-below : (m n : ℕ) → n < m → (a : Shape) → Reaches nodes input n a → (values : List Datum) →
      AreArguments (slice_get nodes n) a values → (q : StopState) (c : Completion) →
      Allowed nodes n values r q c → Fits (sig_of nodes n a) c
  kept-below zero n before a reached values have q c h = absurd (omega arith)
  kept-below (suc m) n before a reached values have q c h = elim ((slice_get_cases nodes n).1) [
    | inl x ↦
        let node : Node = x.0 in
        let at : slice_get nodes n ≡ Some node = x.2 in
        let smaller = built.ordered n node at in
        let plain = built.no_parts n node at in
        let keeps : (k : ℕ) (b : Shape) → k < n → IsNoPart (slice_get nodes k) → Reaches nodes input k b →
        Keeps allowed (sig_of nodes) b k =
        λ k b less no_part below data_ fits s d y.
        kept-below m k (omega (arith, less, before)) b below data_
        (plain-arguments (slice_get nodes k) no_part b data_ fits) s d y in
        subst (λ (sig : Sig). Fits sig c) (sym (signed-by-case nodes built.ordered n node at a))
        (case-keeps allowed (sig_of nodes) nodes r node a
        (subst (λ (o : Option Node). IsTrue (option_map_or (λ one. matches nodes one a) o true)) at
        (matched n a reached))
        (built.whole n node at)
        (All-weaker (Contains (run_by node)) (Keeps allowed (sig_of nodes) a)
        (λ k among. keeps k a
        (All-contains (λ i. i < n) (run_by node) k (run-of (λ i. i < n) node smaller) among)
        (All-contains (λ i. IsNoPart (slice_get nodes i)) (run_by node) k
        (run-of (λ i. IsNoPart (slice_get nodes i)) node plain) among)
        (Reaches.child reached at among))
        (run_by node) (All-contains_itself (run_by node)))
        (All-weaker (Contains (bodies_of node)) (Keeps allowed (sig_of nodes) (body_arguments node (own_sigs (sig_of nodes) node a)))
        (λ k among. keeps k (body_arguments node (own_sigs (sig_of nodes) node a))
        (All-contains (λ i. i < n) (bodies_of node) k (bodies-of (λ i. i < n) node smaller) among)
        (All-contains (λ i. IsNoPart (slice_get nodes i)) (bodies_of node) k
        (bodies-of (λ i. IsNoPart (slice_get nodes i)) node plain) among)
        (Reaches.body reached at among))
        (bodies_of node) (All-contains_itself (bodies_of node)))
        values (subst (λ (o : Option Node). AreArguments o a values) at have) q c
        ((allowed-by-case nodes built.ordered n node at values r q c).0 h))
    | inr x ↦
        let stopped = subst (λ (M : Meaning). M values q c) (node-past absent (Case nodes r) nodes n x.0) h in
        subst (λ (sig : Sig). Fits sig c) (sym (sig-past nodes n x.0 a))
        (subst (Fits no_node) (sym stopped) refl)
  ]

pub kinds-kept : KindsKept
kinds-kept nodes input built matched n a reached values have r q c h =
    kept-below nodes input built matched r (suc n) n (omega arith) a reached values have q c h
