-- What the shelf gives under the name of a plan.
use Rattle.std.specs.Prelude.{◌≢◌, ℕ, List, Option}
use Rattle.exec_io.specs.Shelves.{Texts, Gives, Stands}
use Rattle.plan_kinds.specs.Reached.{KindsMatch}
use Rattle.plan_shape.specs.Blueprint.{Blueprint, IsPlan}
use Rattle.plan_reader.specs.declared.fault.PlanFault.{PlanFault}
use Rattle.plan_reader.specs.declared.fault.PlanFault.TheVariants.{NoMemory}
use Rattle.plan_reader.specs.declared.read.TheConstants.{MOST_PLAN_BYTES}
use Rattle.plan_reader.specs.PlanFile.{IsPlanOf, IsFaultOf}
use Rattle.line_rules.specs.PlanTerms.{MayRun}
use Rattle.exec_engine.specs.declared.task.Task.{Task}
use Rattle.exec_engine.specs.Surroundings.{Surroundings}

-- The shelf tells its texts, and what it gives of the task's plan has this property.
abbrev pub Finds : Surroundings → Task → (List ℕ → Type 0) → Type 0
Finds old task P = Stands MOST_PLAN_BYTES old.shelf.texts task.plan.now P

-- The bytes are refused for this cause.
abbrev pub IsRefused : List ℕ → PlanFault → Type 0
IsRefused bytes fault = (fault ≢ NoMemory) × IsFaultOf bytes fault

-- The bytes are this plan, which is whole and may be run.
pub record IsOpened (bytes : List ℕ) (plan : Blueprint) : Type 0 where
  pub is : IsPlanOf bytes plan
  pub whole : IsPlan plan
  pub matching : KindsMatch plan.nodes plan.settings.input
  pub may_run : MayRun plan.settings

-- The shelf gave bytes under the name that are this plan.
pub record HasPlan (texts : Option Texts) (name : List ℕ) (plan : Blueprint) : Type 0 where
  pub bytes : List ℕ
  pub given : Gives MOST_PLAN_BYTES texts name bytes
  pub opened : IsOpened bytes plan

-- The shelf gave bytes under the name that are refused for this cause.
pub record HasPlanRefusal (texts : Option Texts) (name : List ℕ) (fault : PlanFault) : Type 0 where
  pub bytes : List ℕ
  pub given : Gives MOST_PLAN_BYTES texts name bytes
  pub refused : IsRefused bytes fault
