-- What the arms of an evaluation rest on: which nodes run next, and that a node settles as its arm says.
use Rattle.std.specs.Prelude.{Contains, Some, None, Option, Result, OnOk, IfNone, slice_get}
use Rattle.std.proofs.Common.{◌≡◌, ◌⊎◌, ℕ, ◌<◌, List, sym, ap, ◌∙◌, subst}
use Rattle.std.specs.declared.alloc.AllocError.{AllocError}
use Rattle.std.proofs.lemmas.List.Elements.{All-contains}
use Rattle.exec_value.specs.declared.data.Datum.{Datum}
use Rattle.exec_value.specs.declared.outcome.Completion.{Completion}
use Rattle.exec_job.specs.declared.job.Job.{Job}
use Rattle.plan_rules.specs.declared.node.Node.{Node}
use Rattle.plan_rules.specs.declared.node.Node.TheVariants.{Bulk}
use Rattle.plan_rules.specs.Settle.{let_of, lets_of}
use Rattle.plan_laws.proofs.Readings.{settled-by-case}
use Rattle.plan_kinds.specs.Runs.{run_by}
use Rattle.plan_shape.specs.Blueprint.{Blueprint}
use Rattle.plan_settle.specs.declared.evaluation.Evaluation.{Evaluation}
use Rattle.node_images.specs.Makes.{CompletesInPlace, Makes}
use Rattle.plan_settle.specs.Lets.{settled_let}
use Rattle.plan_kinds.specs.Runnable.{RunsWith, IsRunnable}
use Rattle.plan_settle.specs.Runs.{SettlesLong}
use Rattle.plan_settle.specs.Settles.{Settles, settled_by, settled_case}
use Rattle.plan_kinds.specs.Small.{IsSmall}
use Rattle.plan_kinds.proofs.Plans.{plans-built}
use Rattle.plan_kinds.proofs.Runnable.{before-run, runs-child}
use Rattle.plan_settle.proofs.InPlace.{settled-place, wants-where}

-- a child of a node that runs comes before it, and runs with its arguments
pub child-runs : {plan : Blueprint} {n : ℕ} {args : List Datum} {found node : Node} → IsRunnable plan →
    RunsWith plan n args → slice_get plan.nodes n ≡ Some found → found ≡ node → (k : ℕ) →
    Contains (run_by node) k → (k < n) × RunsWith plan k args
child-runs {plan} {n} {args} {found} {node} runnable runs at is k among =
    let here = at ∙ ap Some is in (
      All-contains (λ j. j < n) (run_by node) k (before-run plan runnable n args runs node here) among,
      runs-child plan runnable n args runs node here k among,
    )

module _ (run : Evaluation) {n : ℕ} {args : List Datum} (runnable : IsRunnable run.plan.now)
    (runs : RunsWith run.plan.now n args) {found node : Node}
    (at : slice_get run.plan.now.nodes n ≡ Some found) (is : found ≡ node) where
  by-case : settled_by run n args ≡ settled_case run node args
  by-case =
      settled-by-case run.plan.now.nodes (plans-built run.plan.now runnable.plan_is).ordered
      n node (at ∙ ap Some is) args run.number run.asked

  -- the node settles as its case does
  pub case-settles : (made : Completion) (result : Result (Unit {0}) AllocError) →
      Settles run (settled_case run node args) made result → Settles run (settled_by run n args) made result
  case-settles made result settles = subst (λ c. Settles run c made result) (sym by-case) settles

  pub case-place : IsSmall run.plan.now →
      CompletesInPlace (settled_case run node args) ⊎ SettlesLong run.plan.now run.number
  case-place small =
      subst (λ c. CompletesInPlace c ⊎ SettlesLong run.plan.now run.number) by-case
      (settled-place run.plan.now runnable small n args runs run.number run.asked)

  -- a call that makes the completion of the node's case settles the node
  pub made-settles : {d made : Completion} {result : Result (Unit {0}) AllocError} →
      d ≡ settled_case run node args → Makes d made result →
      Settles run (settled_case run found args) made result
  made-settles {d} {made} {result} same makes =
      let own : Makes (settled_case run node args) made result = subst (λ c. Makes c made result) same makes in
      let settles : Settles run (settled_case run node args) made result = record {
        exact = own.exact;
        small = λ small. wants-where result own.in_place (case-place small);
      } in
      subst (λ c. Settles run c made result) (ap (λ x. settled_case run x args) (sym is)) settles

-- no small plan has a `bulk`
pub bulk-settles : (run : Evaluation) (n : ℕ) (args : List Datum) {found : Node} {k : ℕ} {job : Job}
    {d made : Completion} {result : Result (Unit {0}) AllocError} →
    slice_get run.plan.now.nodes n ≡ Some found → found ≡ Bulk k job →
    d ≡ settled_case run (Bulk k job) args → OnOk result (made ≡ d) →
    Settles run (settled_case run found args) made result
bulk-settles run n args {found} {k} {job} {d} {made} {result} at is same exact =
    let settles : Settles run d made result = record {
      exact = exact;
      small = λ small. absurd (small.nodes_are n (Bulk k job) (at ∙ ap Some is));
    } in
    subst (λ c. Settles run c made result) (same ∙ ap (λ x. settled_case run x args) (sym is)) settles

-- a let settles by what was taken from its channel, where its child's completion stays if that is nothing
let-same : (run : Evaluation) (pick : Job) (bodies : List ℕ) (channel : Completion → Option (List Datum))
    (taken : Option (List Datum)) (d left : Completion) → taken ≡ channel d → IfNone taken (left ≡ d) →
    settled_let run pick bodies taken left ≡ lets_of channel pick bodies (λ k b. settled_by run k b) d
let-same run pick bodies channel None d left is stays =
    stays ∙ ap (λ t. let_of t pick bodies (λ k b. settled_by run k b) d) is
let-same run pick bodies channel (Some values) d left is stays =
    ap (λ t. let_of t pick bodies (λ k b. settled_by run k b) d) is

pub let-settles : (run : Evaluation) (args : List Datum) (k : ℕ) (pick : Job) (bodies : List ℕ)
    (channel : Completion → Option (List Datum)) (taken : Option (List Datum))
    (done left made c : Completion) (result : Result (Unit {0}) AllocError) →
    lets_of channel pick bodies (λ m b. settled_by run m b) (settled_by run k args) ≡ c →
    done ≡ settled_by run k args → taken ≡ channel done → IfNone taken (left ≡ done) →
    Settles run (settled_let run pick bodies taken left) made result → Settles run c made result
let-settles run args k pick bodies channel taken done left made c result case same is stays settles =
    subst (λ x. Settles run x made result)
    (let-same run pick bodies channel taken done left is stays
    ∙ ap (lets_of channel pick bodies (λ m b. settled_by run m b)) same ∙ case) settles
