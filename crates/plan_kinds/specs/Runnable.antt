-- With which arguments the nodes of a plan run.
use Rattle.std.specs.Prelude.{ℕ, ◌<◌, List, length, slice_get}
use Rattle.exec_value.specs.declared.data.Datum.{Datum}
use Rattle.plan_kinds.specs.Shapes.{Shape, HasShape}
use Rattle.plan_kinds.specs.Reached.{Reaches, KindsMatch}
use Rattle.plan_kinds.specs.Built.{IsNoPart}
use Rattle.plan_shape.specs.Blueprint.{Blueprint, IsPlan}

-- a plan can be evaluated: its kinds match, so that no operand is wrong
pub record IsRunnable (plan : Blueprint) : Type 0 where
  pub plan_is : IsPlan plan
  pub matching : KindsMatch plan.nodes plan.settings.input

-- node n runs with these arguments: of a shape that it is reached under
pub record RunsWith (plan : Blueprint) (n : ℕ) (args : List Datum) : Type 0 where
  pub shape : Shape
  pub reached : Reaches plan.nodes plan.settings.input n shape
  pub arguments : HasShape args shape
  pub within : n < length plan.nodes
  pub no_part : IsNoPart (slice_get plan.nodes n)
