-- What a small plan's evaluation may want memory for.
use Rattle.std.specs.Prelude.{◌≡◌, ◌⊎◌, ℕ, ◌<◌, Bool, List, Some, length, slice_get, All}
use Rattle.exec_value.specs.Place.{AreInPlace}
use Rattle.exec_value.specs.declared.data.Datum.{Datum}
use Rattle.exec_value.specs.declared.limits.TheConstants.{INLINE_BYTES}
use Rattle.exec_value.specs.declared.outcome.Completion.TheVariants.{Error}
use Rattle.exec_job.specs.Apply.{TakesData, apply_of, EndsInPlace}
use Rattle.exec_job.specs.declared.job.Job.{Job}
use Rattle.plan_rules.specs.Settle.{settle_of}
use Rattle.plan_rules.specs.declared.node.Node.{Node}
use Rattle.plan_kinds.specs.Runnable.{RunsWith}
use Rattle.plan_shape.specs.Blueprint.{Blueprint}
use Rattle.plan_settle.specs.declared.evaluation.Evaluation.{Evaluation}
use Rattle.plan_kinds.specs.Small.{IsSmall}

-- node n of the plan that is run is this one
abbrev pub NodeIs : Evaluation → ℕ → Node → Type 0
NodeIs run n node = slice_get run.plan.now.nodes n ≡ Some node

-- some node of the plan runs so that it settles, for the record of this number, to an error whose
-- name doesn't stand in place: a node's own name, which is copied then
pub record SettlesLong (plan : Blueprint) (number : ℕ) : Type 0 where
  pub node : ℕ
  pub args : List Datum
  pub asked : Bool
  pub name : List ℕ
  pub runs : RunsWith plan node args
  pub settles : settle_of plan.nodes node args number asked ≡ Error name
  pub long : INLINE_BYTES < length name

-- the pick of the let n takes these values, and each body, of which there is one, may run with them
pub record MayPick (run : Evaluation) (n : ℕ) (pick : Job) (bodies : List ℕ) (values : List Datum) :
    Type 0 where
  pub takes : TakesData pick values
  pub some : 0 < length bodies
  pub before : All (λ k. k < n) bodies
  pub bodies_run : All (λ k. RunsWith run.plan.now k values) bodies
  -- in a small plan neither wants memory, unless a name is long
  pub in_place : IsSmall run.plan.now →
      (AreInPlace values × EndsInPlace (apply_of pick values)) ⊎ SettlesLong run.plan.now run.number
