-- What the end of a builder answers.
use Rattle.std.specs.Prelude.{◌≡◌, ℕ, ◌+◌, List, length, Result, OnOk, IfOk}
use Rattle.plan_rules.specs.declared.node.Node.{Node}
use Rattle.plan_rules.specs.declared.settings.Settings.{Settings}
use Rattle.plan_shape.specs.declared.fault.BuildFault.{BuildFault}
use Rattle.plan_shape.specs.Refusals.{Answers}
use Rattle.plan_shape.specs.Finish.{finish_fault}
use Rattle.plan_shape.specs.Blueprint.{Blueprint, IsPlan}

-- the plan of these nodes with these settings, or why there is none
pub record Finishes (nodes : List Node) (root : ℕ) (settings : Settings)
    (result : Result Blueprint BuildFault) : Type 0 where
  pub answer : Answers (finish_fault nodes root settings) result
  pub plan : IfOk result (λ plan. plan ≡ record { nodes = nodes; settings = settings })
  pub plan_is : IfOk result IsPlan
  pub root_is_last : OnOk result (root + 1 ≡ length nodes)
