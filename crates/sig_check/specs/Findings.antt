-- What a walk over a plan has found of its nodes.
use Rattle.std.specs.Prelude.{◌≡◌, ℕ, ◌<◌, Bool, false, not, List, length, slice_get, Contains, Option, Some, None}
use Rattle.std.specs.List.{filter_map}
use Rattle.std.specs.Option.{option_map}
use Rattle.exec_value.specs.declared.kinds.Kind.{Kind}
use Rattle.plan_rules.specs.Children.{named_by}
use Rattle.plan_rules.specs.declared.node.Node.{Node}
use Rattle.plan_rules.specs.declared.node.Node.TheVariants.{Part}
use Rattle.plan_kinds.specs.declared.sig.Sig.{Sig}
use Rattle.plan_kinds.specs.Shapes.{Shape}
use Rattle.plan_kinds.specs.Signatures.{sig_of, kinds_match}
use Rattle.plan_kinds.specs.Reached.{Reaches}
use Rattle.plan_shape.specs.Blueprint.{Blueprint, IsPlan}
use Rattle.sig_check.specs.declared.finding.Finding.{Finding}

-- what there is to find of node n under arguments of this shape
abbrev pub finding_of : List Node → ℕ → Shape → Finding
finding_of nodes n a = record { sig = sig_of nodes n a; matches = kinds_match nodes n a }

-- something was found of node n
abbrev pub IsFound : List (Option Finding) → ℕ → Type 0
IsFound findings n = (finding : Finding) × (slice_get findings n ≡ Some (Some finding))

-- there is a place for each node, and what was found of a node holds under the arguments that it
-- runs under
pub record AreRight (nodes : List Node) (input : Kind)
    (findings : List (Option Finding)) : Type 0 where
  pub size : length findings ≡ length nodes
  pub each : (n : ℕ) (finding : Finding) → slice_get findings n ≡ Some (Some finding) →
      (a : Shape) → Reaches nodes input n a → finding ≡ finding_of nodes n a

-- node k is node n, or stands below it
pub data IsUnder (nodes : List Node) : ℕ → ℕ → Type 0 where
  itself : {n : ℕ} → IsUnder nodes n n
  deeper : {n c k : ℕ} {node : Node} → slice_get nodes n ≡ Some node → Contains (named_by node) c →
      IsUnder nodes c k → IsUnder nodes n k

-- a walk finds right things, of these nodes and of all below them, and forgets none
pub record Finds (nodes : List Node) (input : Kind) (old : List (Option Finding)) (numbers : List ℕ)
    (new : List (Option Finding)) : Type 0 where
  pub right : AreRight nodes input new
  pub kept : (k : ℕ) → IsFound old k → IsFound new k
  pub found : (n k : ℕ) → Contains numbers n → IsUnder nodes n k → IsFound new k

-- right things are found of all parts of bulks
pub record FindsParts (plan : Blueprint) (findings : List (Option Finding)) : Type 0 where
  pub right : AreRight plan.nodes plan.settings.input findings
  pub found : (n bulk part : ℕ) → slice_get plan.nodes n ≡ Some (Part bulk part) →
      IsFound findings n

-- right things are found of all nodes of a plan
pub record FindsAll (plan : Blueprint) (findings : List (Option Finding)) : Type 0 where
  pub plan_is : IsPlan plan
  pub right : AreRight plan.nodes plan.settings.input findings
  pub found : (n : ℕ) → n < length plan.nodes → IsFound findings n

-- kinds that don't match were found
abbrev pub is_mismatch : Option Finding → Bool
is_mismatch (Some finding) = not finding.matches
is_mismatch None = false

-- the signatures that were found, in order
abbrev pub found_sigs : List (Option Finding) → List Sig
found_sigs findings = filter_map (option_map (λ (finding : Finding). finding.sig)) findings
