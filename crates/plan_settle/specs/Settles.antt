-- What an evaluation answers.
use Rattle.std.specs.Prelude.{◌≡◌, ℕ, List, Result, OnOk, OnErr}
use Rattle.std.specs.declared.alloc.AllocError.{AllocError}
use Rattle.exec_value.specs.declared.data.Datum.{Datum}
use Rattle.exec_value.specs.declared.outcome.Completion.{Completion}
use Rattle.plan_rules.specs.declared.node.Node.{Node}
use Rattle.plan_rules.specs.Settle.{settle_case, settle_of}
use Rattle.plan_settle.specs.declared.evaluation.Evaluation.{Evaluation}
use Rattle.plan_kinds.specs.Small.{IsSmall}
use Rattle.plan_settle.specs.Runs.{SettlesLong}

-- an evaluation puts this completion in its place; a small plan answers want of memory only where a
-- node of it settles to an error with a long name
pub record Settles (run : Evaluation) (c made : Completion)
    (result : Result (Unit {0}) AllocError) :
    Type 0 where
  pub exact : OnOk result (made ≡ c)
  pub small : IsSmall run.plan.now → OnErr result (SettlesLong run.plan.now run.number)

-- what node n settles to, and what a node settles to by its case
abbrev pub settled_by : Evaluation → ℕ → List Datum → Completion
settled_by run n args = settle_of run.plan.now.nodes n args run.number run.asked

abbrev pub settled_case : Evaluation → Node → List Datum → Completion
settled_case run node args =
    settle_case run.plan.now.nodes run.number node
    (λ k b s. settle_of run.plan.now.nodes k b run.number s) args run.asked
