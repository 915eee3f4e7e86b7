-- The plans that add one, and what their operations complete with.
use Rattle.std.specs.Prelude.{ℤ, pos, ◌+ℤ◌, false, [], ◌∷◌, codes, None, if◌then◌else◌}
use Rattle.exec_job.specs.declared.job.Job.TheVariants.{Add}
use Rattle.exec_value.specs.Number.{is_i64}
use Rattle.exec_value.specs.declared.data.Datum.TheVariants.{Int}
use Rattle.exec_value.specs.declared.kinds.Kind.TheVariants.{Int as IntKind}
use Rattle.exec_value.specs.declared.outcome.Completion.{Completion}
use Rattle.exec_value.specs.declared.outcome.Completion.TheVariants.{Value, Error}
use Rattle.node_tree.specs.declared.context.Context.TheVariants.{Pool}
use Rattle.node_tree.specs.declared.scope_kind.ScopeKind.TheVariants.{Simple}
use Rattle.plan_rules.specs.Images.{then_of}
use Rattle.plan_rules.specs.declared.node.Node.TheVariants.{Input, Then, StartsOn}
use Rattle.plan_rules.specs.declared.settings.Settings.{Settings}
use Rattle.plan_shape.specs.Blueprint.{Blueprint}

-- int records, in a scope without stop source, and no rule that asks for a stop
abbrev pub of_ints : Settings
of_ints = record {
  version = 1;
  input = IntKind;
  scope = Simple;
  stop_after = None;
  on_error_stop = false;
}

-- `then(input, add 1)`
abbrev pub adder : Blueprint
adder = record {
  nodes = Input ∷ Then 0 (Add (pos 1)) ∷ [];
  settings = of_ints;
}

-- `starts_on(pool, then(input, add 1))`
abbrev pub pool_adder : Blueprint
pool_adder = record {
  nodes = Input ∷ Then 0 (Add (pos 1)) ∷ StartsOn Pool 1 ∷ [];
  settings = of_ints;
}

-- what the plan's `then` makes of the number as a value ([exec.then])
abbrev pub one_more : ℤ → Completion
one_more number = then_of (Add (pos 1)) (Value (Int number ∷ []))

-- the next number, or the error `overflow` where an i64 holds no next
abbrev pub next_of : ℤ → Completion
next_of number =
    if is_i64 (number +ℤ pos 1) then Value (Int (number +ℤ pos 1) ∷ [])
    else Error (codes "overflow")
