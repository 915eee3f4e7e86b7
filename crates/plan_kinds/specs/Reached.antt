-- Under which arguments the nodes of a plan run, and whether their kinds match there.
use Rattle.std.specs.Prelude.{◌≡◌, ℕ, ◌+◌, ◌<◌, IsTrue, IsFalse, List, [], ◌∷◌, length, slice_get, Contains, Some}
use Rattle.exec_value.specs.declared.kinds.Kind.{Kind}
use Rattle.exec_value.specs.declared.kinds.Kind.TheVariants.{Int, Row}
use Rattle.plan_rules.specs.declared.node.Node.{Node}
use Rattle.plan_rules.specs.declared.node.Node.TheVariants.{Part}
use Rattle.plan_kinds.specs.Shapes.{Shape}
use Rattle.plan_kinds.specs.Runs.{run_by, bodies_of}
use Rattle.plan_kinds.specs.Values.{body_arguments}
use Rattle.plan_kinds.specs.Signatures.{own_sigs, sig_of, kinds_match}

-- a node runs under arguments of this shape: the last, which is the root, under one datum of the
-- input's kind; a child of a node as that node, or as a body; and a part under a row and an index
pub data Reaches (nodes : List Node) (input : Kind) : ℕ → Shape → Type 0 where
  root : {n : ℕ} → length nodes ≡ n + 1 → Reaches nodes input n (Some (input ∷ []))
  child : {n k : ℕ} {node : Node} {a : Shape} → Reaches nodes input n a →
      slice_get nodes n ≡ Some node →
      Contains (run_by node) k → Reaches nodes input k a
  body : {n k : ℕ} {node : Node} {a : Shape} → Reaches nodes input n a →
      slice_get nodes n ≡ Some node →
      Contains (bodies_of node) k →
      Reaches nodes input k (body_arguments node (own_sigs (sig_of nodes) node a))
  part : {n bulk number : ℕ} → slice_get nodes n ≡ Some (Part bulk number) →
      Reaches nodes input n (Some (Row ∷ Int ∷ []))

-- the kinds of a plan match: those of each node, under all arguments that it runs under
abbrev pub KindsMatch : List Node → Kind → Type 0
KindsMatch nodes input = (n : ℕ) (a : Shape) → Reaches nodes input n a →
    IsTrue (kinds_match nodes n a)

-- n is the first node in number order whose kinds don't match
pub record IsFirstMismatch (nodes : List Node) (input : Kind) (n : ℕ) : Type 0 where
  pub here : (a : Shape) × Reaches nodes input n a × IsFalse (kinds_match nodes n a)
  pub before : (k : ℕ) → k < n → (a : Shape) → Reaches nodes input k a →
      IsTrue (kinds_match nodes k a)
