-- The signature of a node: which values it can have, and how else it may end.
use Rattle.std.specs.Prelude.{ℕ, Bool, true, IsTrue, List, map, slice_get, None, if◌then◌else◌}
use Rattle.std.specs.Option.{option_map_or}
use Rattle.exec_value.specs.declared.outcome.Completion.{Completion}
use Rattle.exec_value.specs.declared.outcome.Completion.TheVariants.{Value, Error, Stopped, NoMemory}
use Rattle.plan_rules.specs.Tables.{by_node}
use Rattle.plan_rules.specs.declared.node.Node.{Node}
use Rattle.plan_kinds.specs.declared.sig.Sig.{Sig}
use Rattle.plan_kinds.specs.Shapes.{Shape, HasShape}
use Rattle.plan_kinds.specs.Runs.{run_by, bodies_of}
use Rattle.plan_kinds.specs.Values.{no_node, body_arguments, value_case, match_case}
use Rattle.plan_kinds.specs.Flags.{error_case, stop_case}

-- the signature of a node by the shape of its arguments, and by the signatures of its children and
-- of its bodies; where its kinds don't match it is never a value
abbrev pub sig_by : List Node → Node → Shape → List Sig → List Sig → Sig
sig_by nodes node a own behind = record {
  value = if match_case node own behind then value_case node a own behind else None;
  may_error = error_case nodes node own behind;
  may_stop = stop_case node own behind;
}

-- the signatures of nodes, each by the shape of its arguments
abbrev pub Signatures : Type 0
Signatures = ℕ → Shape → Sig

-- those of some nodes under the same arguments
abbrev pub sigs_at : Signatures → List ℕ → Shape → List Sig
sigs_at below numbers a = map (λ n. below n a) numbers

-- those of a node's children, and of its bodies
abbrev pub own_sigs : Signatures → Node → Shape → List Sig
own_sigs below node a = sigs_at below (run_by node) a

abbrev pub body_sigs : Signatures → Node → Shape → List Sig
body_sigs below node a = sigs_at below (bodies_of node)
    (body_arguments node (own_sigs below node a))

-- the signature of a node by those of the nodes before it
abbrev pub sig_case : List Node → Node → Signatures → Shape → Sig
sig_case nodes node below a = sig_by nodes node a (own_sigs below node a) (body_sigs below node a)

-- the signature of node n under arguments of this shape
unfoldable pub sig_of : List Node → ℕ → Shape → Sig
sig_of nodes n a = by_node (λ _. no_node) (sig_case nodes) nodes n a

-- the kinds of a node match under arguments of this shape, and those of node n
abbrev pub matches : List Node → Node → Shape → Bool
matches nodes node a = match_case node (own_sigs (sig_of nodes) node a)
    (body_sigs (sig_of nodes) node a)

abbrev pub kinds_match : List Node → ℕ → Shape → Bool
kinds_match nodes n a = option_map_or (λ node. matches nodes node a) (slice_get nodes n) true

-- a completion is one of those that a signature names
abbrev pub Fits : Sig → Completion → Type 0
Fits sig (Value values) = HasShape values sig.value
Fits sig (Error e) = IsTrue sig.may_error
Fits sig Stopped = IsTrue sig.may_stop
Fits sig NoMemory = ⊥
