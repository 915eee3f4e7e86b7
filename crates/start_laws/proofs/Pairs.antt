-- The start of a child over that of its parent, and what the child completed with, in the parent's words.
use Rattle.std.specs.Prelude.{Contains}
use Rattle.std.proofs.Common.{◌≡◌, ℕ, suc, Bool, List, [], ◌∷◌, Some, None, inl, inr, sym, ap, ◌∙◌, subst, arith}
use Rattle.std.proofs.lemmas.List.Elements.{Contains-push_cases}
use Rattle.exec_value.specs.declared.outcome.Completion.{Completion}
use Rattle.exec_value.specs.declared.outcome.Completion.TheVariants.{Value, Error, Stopped, NoMemory}
use Rattle.exec_value.specs.declared.data.Datum.{Datum}
use Rattle.plan_rules.specs.declared.node.Node.{Node}
use Rattle.plan_rules.specs.declared.node.Node.TheVariants.{Ahead}
use Rattle.plan_rules.specs.declared.stop.StopState.{StopState}
use Rattle.plan_rules.specs.Allowed.{Allowed, Meaning, Case}
use Rattle.plan_rules.specs.Seen.{seen_state}
use Rattle.plan_laws.proofs.Memory.{HasMemory, allowed-memory}
use Rattle.plan_laws.proofs.Steps.{allowed-by-case}
use Rattle.plan_kinds.specs.Runs.{run_by}
use Rattle.plan_kinds.proofs.Placing.{no-member}
use Rattle.plan_kinds.proofs.Plans.{plans-built}
use Rattle.home_items.specs.declared.entry.Entry.{Entry}
use Rattle.home_items.specs.Entries.{plan_of, node_of, args_of, record_number, asked_of, plan_node}
use Rattle.home_items.specs.HasKinds.{HasKinds}
use Rattle.home_items.specs.Below.{run_below, asked_below, IsPlainChild}
use Rattle.home_items.specs.Starts.{IsStart}
use Rattle.home_items.specs.Parcels.{AllowedFor, MayDeliver}
use Rattle.home_items.specs.Fits.{IsChildOf}
use Rattle.home_items.proofs.Collecting.{receiver-none}
use Rattle.home_items.proofs.Pairing.{run-allowed}
use Rattle.start_laws.specs.Nodes.{start_node, IsStartOf, plain_children}

pub none-some : {A G : Type 0} {x : A} → None ≡ Some x → G
none-some e = cc

-- the one of a list of one
pub sole : (x k : ℕ) → Contains (x ∷ []) k → k ≡ x
sole x k among =
    elim (Contains-push_cases [] x k among) [ inl none_there ↦ no-member k none_there | inr e ↦ sym e ]

-- what runs below a node with its arguments are its plain children
pub plain-below : (node : Node) (p : Entry) (k : ℕ) → Contains (run_below (Some node) p) k → Contains (plain_children node) k
plain-below (Ahead first second) p k among = among
plain-below node p k among = among

pub below-plain : (node : Node) (p : Entry) (k : ℕ) → Contains (plain_children node) k → Contains (run_below (Some node) p) k
below-plain (Ahead first second) p k among = among
below-plain node p k among = among

-- a start of a node of the plan has arguments of its kinds
pub start-kinds : (start : List Entry) (node : Node) → IsStart start → start_node start ≡ Some node →
    HasKinds (plan_of start) (node_of start) (args_of start)
start-kinds [] node starts at = absurd starts
start-kinds (e ∷ []) node starts at = none-some (sym (receiver-none e starts) ∙ at)
start-kinds (e ∷ p ∷ above) node starts at = starts.0.kinds

-- all that is allowed has memory
pub allowed-has : (nodes : List Node) (n : ℕ) (a : List Datum) (r : ℕ) (q : StopState) (c : Completion) →
    Allowed nodes n a r q c → HasMemory c
allowed-has nodes n a r q NoMemory h = allowed-memory nodes n a r q h
allowed-has nodes n a r q (Value values) h = tt
allowed-has nodes n a r q (Error name) h = tt
allowed-has nodes n a r q Stopped h = tt

pub for-has : (start : List Entry) (saw : Bool) (c : Completion) → AllowedFor start saw c → HasMemory c
for-has [] saw c allowed = absurd allowed
for-has (e ∷ above) saw c allowed =
    allowed-has e.plan.nodes e.node e.args e.number (seen_state e.asked saw) c allowed

pub memory-not : (c : Completion) → HasMemory c → c ≡ NoMemory → ⊥
memory-not c memory want = subst HasMemory want memory

-- so what is delivered, and isn't want of memory, is allowed
pub delivers-allowed : (start : List Entry) (saw : Bool) (c : Completion) → MayDeliver start saw c → (c ≡ NoMemory → ⊥) →
    AllowedFor start saw c
delivers-allowed start saw c may memory = elim may [ inl want ↦ absurd (memory want) | inr allowed ↦ allowed ]

-- the children of a start's node, by what is allowed for them
abbrev pub below_start : List Entry → ℕ → Meaning
below_start start k b s d = Allowed (plan_of start).nodes k b (record_number start) s d

-- what the case of its node says is allowed for a start
pub case-allowed : (start : List Entry) (node : Node) → IsStartOf start node → (saw : Bool) (c : Completion) →
    Case (plan_of start).nodes (record_number start) node (below_start start) (args_of start)
    (seen_state (asked_of start) saw) c →
    AllowedFor start saw c
case-allowed [] node of saw c h = none-some of.node_is
case-allowed (p ∷ above) node of saw c h =
    (allowed-by-case p.plan.nodes (plans-built p.plan of.runnable.plan_is).ordered p.node node of.node_is
    p.args p.number (seen_state p.asked saw) c).1 h

-- A child that runs with its parent's arguments: its number, and what is allowed for it, in the parent's words.
pub record IsAllowedBelow (start : List Entry) (node : Node) (number : ℕ) (saw : Bool) (done : Completion) : Type 0 where
  pub among : Contains (plain_children node) number
  pub allowed : below_start start number (args_of start) (seen_state (asked_below (Some node) (asked_of start)) saw) done

pub child-allowed : (child start : List Entry) (node : Node) → start_node start ≡ Some node → IsStart child →
    IsChildOf child start → (saw : Bool) (done : Completion) → AllowedFor child saw done →
    IsAllowedBelow start node (node_of child) saw done
child-allowed [] start node at starts of saw done allowed = absurd of
child-allowed (e ∷ []) start node at starts of saw done allowed = absurd of
child-allowed (e ∷ p ∷ above) start node at starts of saw done allowed =
    let under = starts.0.under in
    let here : plan_node p ≡ Some node = sym (ap start_node of.0) ∙ at in
    let run : IsPlainChild (Some node) e p = subst (λ o. IsPlainChild o e p) here of.1 in
    subst (λ s. IsAllowedBelow s node e.node saw done) (sym of.0) (record {
      among = plain-below node p e.node run.runs;
      allowed = run-allowed (Some node) e p (p ∷ above) under.plan under.number run saw done allowed;
    })

pub child-among : (child start : List Entry) (node : Node) → start_node start ≡ Some node → IsChildOf child start →
    Contains (plain_children node) (node_of child)
child-among [] start node at of = absurd of
child-among (e ∷ []) start node at of = absurd of
child-among (e ∷ p ∷ above) start node at of =
    let here : plan_node p ≡ Some node = sym (ap start_node of.0) ∙ at in
    let run : IsPlainChild (Some node) e p = subst (λ o. IsPlainChild o e p) here of.1 in
    plain-below node p e.node run.runs

pub plain-run : (node : Node) (k : ℕ) → Contains (plain_children node) k → Contains (run_by node) k
plain-run (Ahead first second) k among = let i = among.0 in (suc i, omega (arith, among.1), among.2)
plain-run node k among = among
