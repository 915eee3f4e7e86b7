-- What holds of the completions of every list of nodes.
use Rattle.std.specs.Prelude.{◌≡◌, ◌↔◌, ℕ, Bool, false, List, Some, slice_get}
use Rattle.exec_value.specs.declared.data.Datum.{Datum}
use Rattle.exec_value.specs.declared.outcome.Completion.{Completion}
use Rattle.exec_value.specs.declared.outcome.Completion.TheVariants.{NoMemory}
use Rattle.plan_rules.specs.declared.node.Node.{Node}
use Rattle.plan_rules.specs.declared.stop.StopState.{StopState}
use Rattle.plan_rules.specs.declared.stop.StopState.TheVariants.{Never, May}
use Rattle.plan_rules.specs.Allowed.{Allowed, Case}
use Rattle.plan_rules.specs.Settle.{stop_state, settle_of, settle_case}
use Rattle.plan_rules.specs.Calm.{Calm, CalmCase}
use Rattle.plan_laws.specs.Order.{IsOrdered}

-- a node may have the completions of its case, by those that its children may have
abbrev pub AllowedByCase : Type 0
AllowedByCase =
    (nodes : List Node) → IsOrdered nodes →
    (n : ℕ) (node : Node) → slice_get nodes n ≡ Some node →
    (a : List Datum) (r : ℕ) (q : StopState) (c : Completion) →
    Allowed nodes n a r q c ↔ Case nodes r node (λ k b s d. Allowed nodes k b r s d) a q c

-- a node settles by its case, as its children settle
abbrev pub SettledByCase : Type 0
SettledByCase =
    (nodes : List Node) → IsOrdered nodes →
    (n : ℕ) (node : Node) → slice_get nodes n ≡ Some node →
    (a : List Datum) (r : ℕ) (asked : Bool) →
    settle_of nodes n a r asked ≡ settle_case nodes r node
    (λ k b s. settle_of nodes k b r s) a asked

-- a node is calm by its case, as its children are calm
abbrev pub CalmByCase : Type 0
CalmByCase =
    (nodes : List Node) → IsOrdered nodes →
    (n : ℕ) (node : Node) → slice_get nodes n ≡ Some node → (a : List Datum) (r : ℕ) →
    Calm nodes n a r ↔ CalmCase nodes r node (λ k b. Calm nodes k b r) a

-- what is allowed where no stop comes, or where one stands, is allowed where one may come
abbrev pub MayCovers : Type 0
MayCovers =
    (nodes : List Node) (n : ℕ) (a : List Datum) (r : ℕ) (q : StopState) (c : Completion) →
    Allowed nodes n a r q c → Allowed nodes n a r May c

-- the settled completion is allowed: where a stop was asked before the start, and where none ever
-- is
abbrev pub SettledIsAllowed : Type 0
SettledIsAllowed =
    (nodes : List Node) (n : ℕ) (a : List Datum) (r : ℕ) (asked : Bool) →
    Allowed nodes n a r (stop_state asked) (settle_of nodes n a r asked)

-- want of memory is never allowed
abbrev pub AllowedHasMemory : Type 0
AllowedHasMemory =
    (nodes : List Node) (n : ℕ) (a : List Datum) (r : ℕ) (q : StopState) →
    Allowed nodes n a r q NoMemory → ⊥

-- no node settles to want of memory
abbrev pub SettledHasMemory : Type 0
SettledHasMemory =
    (nodes : List Node) (n : ℕ) (a : List Datum) (r : ℕ) (asked : Bool) →
    settle_of nodes n a r asked ≡ NoMemory → ⊥

-- a calm record has one completion where no stop comes: the settled one
abbrev pub CalmIsSettled : Type 0
CalmIsSettled =
    (nodes : List Node) → IsOrdered nodes →
    (n : ℕ) (a : List Datum) (r : ℕ) → Calm nodes n a r →
    (c : Completion) → Allowed nodes n a r Never c ↔ (c ≡ settle_of nodes n a r false)
