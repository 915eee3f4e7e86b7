-- Which nodes run below a node that runs, and how they settle.
use Rattle.std.proofs.Common.{◌≡◌, ℕ, ◌<◌, Bool, true, List, [], ◌∷◌, get_or, Option, Some, refl, subst, arith}
use Rattle.std.specs.Prelude.{All, Contains, IsTrue, slice_get}
use Rattle.std.specs.Option.{option_map_or}
use Rattle.std.proofs.lemmas.List.Elements.{All-contains, All-contains_itself}
use Rattle.exec_value.specs.declared.data.Datum.{Datum}
use Rattle.plan_rules.specs.declared.node.Node.{Node}
use Rattle.plan_rules.specs.Settle.{stop_state, settle_of}
use Rattle.plan_laws.proofs.Evaluation.{settled-allowed}
use Rattle.plan_kinds.specs.Shapes.{HasShape}
use Rattle.plan_kinds.specs.Runs.{run_by, bodies_of}
use Rattle.plan_kinds.specs.Values.{body_arguments}
use Rattle.plan_kinds.specs.Signatures.{own_sigs, sig_of, matches, Fits}
use Rattle.plan_kinds.specs.Reached.{Reaches}
use Rattle.plan_kinds.specs.Built.{IsNoPart, IsBuilt}
use Rattle.plan_kinds.proofs.Running.{run-of, bodies-of}
use Rattle.plan_kinds.proofs.Kept.{plain-arguments, kinds-kept}
use Rattle.plan_shape.specs.Blueprint.{Blueprint}
use Rattle.plan_kinds.specs.Runnable.{RunsWith, IsRunnable}
use Rattle.plan_kinds.proofs.Plans.{plans-built}

-- the first of a list, and the second of two
pub first : (k : ℕ) (xs : List ℕ) → Contains (k ∷ xs) k
first k xs = (0, omega arith, refl)

pub second : (k j : ℕ) → Contains (k ∷ j ∷ []) j
second k j = (1, omega arith, refl)

-- a node that runs settles as its signature says
pub settles-in_kind : (plan : Blueprint) → IsRunnable plan → (n : ℕ) (args : List Datum)
    (runs : RunsWith plan n args) (r : ℕ) (asked : Bool) →
    Fits (sig_of plan.nodes n runs.shape) (settle_of plan.nodes n args r asked)
settles-in_kind plan runnable n args runs r asked =
    kinds-kept plan.nodes plan.settings.input (plans-built plan runnable.plan_is)
    runnable.matching n runs.shape runs.reached args
    (plain-arguments (slice_get plan.nodes n) runs.no_part runs.shape args runs.arguments)
    r (stop_state asked) (settle_of plan.nodes n args r asked) (settled-allowed plan.nodes n args r asked)

module _ (plan : Blueprint) (runnable : IsRunnable plan) (n : ℕ) (args : List Datum)
    (runs : RunsWith plan n args) (node : Node) (at : slice_get plan.nodes n ≡ Some node) where
  pub built : IsBuilt plan.nodes
  built = plans-built plan runnable.plan_is

  pub before-run : All (λ k. k < n) (run_by node)
  before-run = run-of (λ k. k < n) node (built.ordered n node at)

  pub plain-run : All (λ k. IsNoPart (slice_get plan.nodes k)) (run_by node)
  plain-run = run-of (λ k. IsNoPart (slice_get plan.nodes k)) node (built.no_parts n node at)

  -- a child runs with the node's arguments
  abbrev pub runs-child : (k : ℕ) → Contains (run_by node) k → RunsWith plan k args
  runs-child k among = record {
    shape = runs.shape;
    reached = Reaches.child runs.reached at among;
    arguments = runs.arguments;
    within = let before = All-contains (λ j. j < n) (run_by node) k before-run among in
        omega (arith, before, runs.within);
    no_part = All-contains (λ j. IsNoPart (slice_get plan.nodes j)) (run_by node) k plain-run among;
  }

  -- and settles as its signature says
  pub child-fits : (k : ℕ) → Contains (run_by node) k → (r : ℕ) (asked : Bool) →
      Fits (sig_of plan.nodes k runs.shape) (settle_of plan.nodes k args r asked)
  child-fits k among r asked = settles-in_kind plan runnable k args (runs-child k among) r asked

  -- the kinds of the node match
  pub matched : IsTrue (matches plan.nodes node runs.shape)
  matched =
      subst (λ (o : Option Node). IsTrue (option_map_or (λ one. matches plan.nodes one runs.shape) o true)) at
      (runnable.matching n runs.shape runs.reached)

  pub before-body : All (λ k. k < n) (bodies_of node)
  before-body = bodies-of (λ k. k < n) node (built.ordered n node at)

  plain-body : All (λ k. IsNoPart (slice_get plan.nodes k)) (bodies_of node)
  plain-body = bodies-of (λ k. IsNoPart (slice_get plan.nodes k)) node (built.no_parts n node at)

  -- the bodies of a let run with values of the shape that is theirs
  pub bodies-run : (values : List Datum) →
      HasShape values (body_arguments node (own_sigs (sig_of plan.nodes) node runs.shape)) →
      All (λ k. RunsWith plan k values) (bodies_of node)
  bodies-run values have =
      λ i d within.
      let k = get_or (bodies_of node) i d in
      let among : Contains (bodies_of node) k = All-contains_itself (bodies_of node) i d within in
      let before = All-contains (λ j. j < n) (bodies_of node) k before-body among in
      record {
        shape = body_arguments node (own_sigs (sig_of plan.nodes) node runs.shape);
        reached = Reaches.body runs.reached at among;
        arguments = have;
        within = omega (arith, before, runs.within);
        no_part = All-contains (λ j. IsNoPart (slice_get plan.nodes j)) (bodies_of node) k plain-body among;
      }
