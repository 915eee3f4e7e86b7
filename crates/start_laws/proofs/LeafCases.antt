-- What a node completes with by itself is allowed by its case.
use Rattle.std.specs.Prelude.{slice_index}
use Rattle.std.proofs.Common.{◌≡◌, ℕ, Bool, true, false, ◌||◌, IsTrue, List, [], length, inr, refl, subst}
use Rattle.std.proofs.lemmas.Bool.{false≢true}
use Rattle.exec_value.specs.declared.outcome.Completion.{Completion}
use Rattle.exec_value.specs.declared.outcome.Completion.TheVariants.{Value, Stopped}
use Rattle.plan_rules.specs.declared.node.Node.{Node}
use Rattle.plan_rules.specs.declared.node.Node.TheVariants.{Input, Just, JustError, JustStopped, Schedule, Delay, ReadEnv, StartsOn, ContinuesOn, WhenAll, Part}
use Rattle.plan_rules.specs.declared.node.Query.{Query}
use Rattle.plan_rules.specs.declared.node.Query.TheVariants.{Stop, Record}
use Rattle.plan_rules.specs.Settle.{unless_asked, shown_of}
use Rattle.plan_rules.specs.Allowed.{Meaning, OrStopped, Asks, AllOf, Case}
use Rattle.plan_rules.specs.Seen.{seen_state}
use Rattle.exec_value.specs.declared.data.Datum.{Datum}
use Rattle.home_items.specs.declared.entry.Entry.{Entry}
use Rattle.home_items.specs.Entries.{plan_of, args_of, record_number, asked_of}
use Rattle.home_items.specs.Parcels.{AllowedFor}
use Rattle.start_laws.specs.Nodes.{IsStartOf}
use Rattle.start_laws.specs.Leaves.{IsLeaf, leaf_of, IsStoppable}
use Rattle.start_laws.specs.Laws.{LeavesAreAllowed, StopsAreAllowed}
use Rattle.start_laws.proofs.Pairs.{below_start, case-allowed}

or-none : (b : Bool) → (b || false) ≡ b
or-none true = refl
or-none false = refl

-- a request is found where one was made before the start, or one is seen
asks-found : (query : Query) (number : ℕ) (asked saw : Bool) →
    Asks query number (seen_state asked saw) (shown_of query number (asked || saw))
asks-found Record number asked saw = refl
asks-found Stop number true saw = refl
asks-found Stop number false true = inr refl
asks-found Stop number false false = refl

turn-found : (asked saw : Bool) →
    OrStopped (seen_state asked saw) (λ d. d ≡ Value []) (unless_asked (asked || saw) (Value []))
turn-found true saw = refl
turn-found false true = inr refl
turn-found false false = refl

stop-found : (Child : Completion → Type 0) (asked saw : Bool) → IsTrue (asked || saw) →
    OrStopped (seen_state asked saw) Child Stopped
stop-found Child true saw found = refl
stop-found Child false true found = inr refl
stop-found Child false false found = absurd (false≢true found)

leaf-case : (start : List Entry) (node : Node) → IsLeaf node → (saw : Bool) →
    Case (plan_of start).nodes (record_number start) node (below_start start) (args_of start)
    (seen_state (asked_of start) saw) (leaf_of node (asked_of start || saw) start)
leaf-case start Input leaf saw = refl
leaf-case start (Just values) leaf saw = refl
leaf-case start (JustError name) leaf saw = refl
leaf-case start JustStopped leaf saw = refl
leaf-case start (Schedule on) leaf saw = turn-found (asked_of start) saw
leaf-case start (Delay turns) leaf saw = turn-found (asked_of start) saw
leaf-case start (ReadEnv query) leaf saw = asks-found query (record_number start) (asked_of start) saw
leaf-case start (Part bulk part) leaf saw = refl
leaf-case start node leaf saw = absurd leaf

leaf-allowed : (start : List Entry) (node : Node) → IsStartOf start node → IsLeaf node → (saw : Bool) →
    AllowedFor start saw (leaf_of node (asked_of start || saw) start)
leaf-allowed start node at leaf saw =
    case-allowed start node at saw (leaf_of node (asked_of start || saw) start) (leaf-case start node leaf saw)

pub leaves-allowed : LeavesAreAllowed
leaves-allowed = record {
  unseen = λ start node at leaf.
      inr (subst (λ b. AllowedFor start false (leaf_of node b start)) (or-none (asked_of start))
      (leaf-allowed start node at leaf false));
  seen = λ start node at leaf saw. inr (leaf-allowed start node at leaf saw);
}

stop-case : (nodes : List Node) (r : ℕ) (Below : ℕ → Meaning) (a : List Datum) (node : Node) → IsStoppable node →
    (asked saw : Bool) → IsTrue (asked || saw) → Case nodes r node Below a (seen_state asked saw) Stopped
stop-case nodes r Below a (Schedule on) stops asked saw found = stop-found (λ d. d ≡ Value []) asked saw found
stop-case nodes r Below a (Delay turns) stops asked saw found = stop-found (λ d. d ≡ Value []) asked saw found
stop-case nodes r Below a (StartsOn on x) stops asked saw found = stop-found (Below x a (seen_state asked saw)) asked saw found
stop-case nodes r Below a (ContinuesOn x on) stops asked saw found = stop-found (Below x a (seen_state asked saw)) asked saw found
stop-case nodes r Below a (WhenAll xs) stops asked saw found =
    stop-found (AllOf (λ s i d. Below (slice_index xs i) a s d) (seen_state asked saw) (length xs)) asked saw found
stop-case nodes r Below a node stops asked saw found = absurd stops

pub stop-allowed : (start : List Entry) (node : Node) → IsStartOf start node → IsStoppable node → (saw : Bool) →
    IsTrue (asked_of start || saw) → AllowedFor start saw Stopped
stop-allowed start node at stops saw found =
    case-allowed start node at saw Stopped
    (stop-case (plan_of start).nodes (record_number start) (below_start start) (args_of start) node stops
    (asked_of start) saw found)

pub stops-allowed : StopsAreAllowed
stops-allowed start node at stops saw found = inr (stop-allowed start node at stops saw found)
