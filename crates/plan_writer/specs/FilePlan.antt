-- Which plans a plan file can say.
use Rattle.std.specs.Prelude.{IsFalse}
use Rattle.plan_kinds.specs.Reached.{KindsMatch}
use Rattle.plan_rules.specs.Exclusion.{exclude_each_other}
use Rattle.plan_shape.specs.Blueprint.{Blueprint}
use Rattle.plan_writer.specs.Order.{IsInFileOrder}

-- a plan whose kinds match, whose settings don't exclude each other, and whose nodes are numbered
-- in the order of a file
pub record IsFilePlan (plan : Blueprint) : Type 0 where
  pub kinds : KindsMatch plan.nodes plan.settings.input
  pub rules : IsFalse (exclude_each_other plan.settings)
  pub order : IsInFileOrder plan.nodes
