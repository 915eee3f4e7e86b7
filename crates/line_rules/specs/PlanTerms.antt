-- What a plan asks of the lines.
use Rattle.std.specs.Prelude.{◌≢◌, ◌⊎◌, ℕ, ◌-◌, ◌<◌, min, IsFalse, List, [], ◌∷◌, length, IfSome, if◌then◌else◌, Bool}
use Rattle.std.specs.List.{list_any}
use Rattle.exec_value.specs.declared.data.Datum.{Datum}
use Rattle.exec_value.specs.declared.kinds.Kind.{Kind}
use Rattle.exec_value.specs.declared.kinds.Kind.TheVariants.{Int}
use Rattle.exec_value.specs.declared.outcome.Completion.{Completion}
use Rattle.plan_rules.specs.declared.node.Node.{Node}
use Rattle.plan_rules.specs.declared.settings.Settings.{Settings}
use Rattle.plan_rules.specs.declared.stop.StopState.{StopState}
use Rattle.plan_rules.specs.Allowed.{Allowed}
use Rattle.plan_rules.specs.Exclusion.{exclude_each_other}
use Rattle.plan_shape.specs.Blueprint.{Blueprint}
use Rattle.plan_shape.specs.Finish.{is_ahead}
use Rattle.line_rules.specs.declared.window.TheConstants.{MOST_WITH_AHEAD}
use Rattle.line_rules.specs.Lawful.{Terms}
use Rattle.line_rules.specs.StopStates.{rules_of}

-- The plan allows the record of this number and datum the completion in this stop state: its root
-- does, under the datum alone.
unfoldable pub AllowsRecord : Blueprint → ℕ → Datum → StopState → Completion → Type 0
AllowsRecord plan number datum stop completion =
    Allowed plan.nodes (length plan.nodes - 1) (datum ∷ []) number stop completion

-- Want of memory may be answered where the plan's records aren't ints, and where its evaluation may
-- want memory.
abbrev pub MayWant : (Blueprint → Type 0) → Blueprint → Type 0
MayWant WantsMemory plan = (plan.settings.input ≢ Int) ⊎ WantsMemory plan

-- The terms of a plan that is run with this window.
abbrev pub terms_of : (Blueprint → Type 0) → Blueprint → ℕ → Terms
terms_of WantsMemory plan window = record {
  input = plan.settings.input;
  allows = AllowsRecord plan;
  wants = MayWant WantsMemory plan;
  window = window;
  rules = rules_of plan.settings;
}

-- Whether the plan has an `ahead`: its first child runs as an operation of its own.
abbrev pub has_ahead : Blueprint → Bool
has_ahead plan = list_any is_ahead plan.nodes

-- How many records of a plan are worked on at once, where the command gives this window: fewer for
-- a plan with an `ahead`, whose first children take blocks of their own.
abbrev pub window_of : Blueprint → ℕ → ℕ
window_of plan window = if has_ahead plan then min window MOST_WITH_AHEAD else window

-- Settings with which a plan may be run: records are counted from 1, and the settings don't exclude
-- each other.
pub record MayRun (settings : Settings) : Type 0 where
  pub stop_after : IfSome settings.stop_after (λ k. 0 < k)
  pub rules : IsFalse (exclude_each_other settings)
