-- Of which kinds the arguments of a node's start are.
use Rattle.std.specs.Prelude.{ℕ, List, slice_get}
use Rattle.exec_value.specs.declared.data.Datum.{Datum}
use Rattle.plan_shape.specs.Blueprint.{Blueprint}
use Rattle.plan_kinds.specs.Shapes.{Shape}
use Rattle.plan_kinds.specs.Reached.{Reaches}
use Rattle.plan_kinds.specs.Built.{AreArguments}

-- the data are of the kinds that the plan gives the arguments of this node
pub record HasKinds (plan : Blueprint) (node : ℕ) (args : List Datum) : Type 0 where
  pub shape : Shape
  pub reached : Reaches plan.nodes plan.settings.input node shape
  pub kinds : AreArguments (slice_get plan.nodes node) shape args
