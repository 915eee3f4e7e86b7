-- A plan: nodes under one root, and settings.
use Rattle.std.specs.Prelude.{◌≡◌, ◌↔◌, ℕ, ◌+◌, ◌<◌, ⊤, IsTrue, IsFalse, List, length, IfSome}
use Rattle.exec_value.specs.declared.kinds.Kind.{Kind}
use Rattle.exec_value.specs.declared.kinds.Kind.TheVariants.{Int, Text, Row}
use Rattle.plan_rules.specs.declared.node.Node.{Node}
use Rattle.plan_rules.specs.declared.settings.Settings.{Settings}
use Rattle.plan_shape.specs.declared.limits.TheConstants.{MOST_STOP_AFTER}
use Rattle.plan_shape.specs.Conditions.{is_within}
use Rattle.plan_shape.specs.Parents.{is_free}
use Rattle.plan_shape.specs.Forest.{IsForest}
use Rattle.plan_shape.specs.Finish.{is_too_large, is_too_new, is_misplaced}

-- what a plan says: its nodes, of which the last is the root, and its settings
pub record Blueprint : Type 0 where
  pub nodes : List Node
  pub settings : Settings

-- a kind that records may have
abbrev pub IsRecordKind : Kind → Type 0
IsRecordKind Int = ⊤
IsRecordKind Text = ⊤
IsRecordKind Row = ⊤
IsRecordKind kind = ⊥

-- settings are within their limits
pub record AreSettings (settings : Settings) : Type 0 where
  pub version : IsTrue (is_within 1 2 settings.version)
  pub input : IsRecordKind settings.input
  pub stop_after :
      IfSome settings.stop_after (λ number. IsTrue (is_within 1 MOST_STOP_AFTER number))

-- what holds of a plan
pub record IsPlan (plan : Blueprint) : Type 0 where
  pub forest : IsForest plan.nodes
  pub some : 0 < length plan.nodes
  pub root : (n : ℕ) → IsTrue (is_free plan.nodes n) ↔ (n + 1 ≡ length plan.nodes)
  pub settings_are : AreSettings plan.settings
  pub small : IsFalse (is_too_large plan.settings plan.nodes)
  pub old_enough : (n : ℕ) → n < length plan.nodes → IsFalse (is_too_new plan.settings plan.nodes n)
  pub well_placed : (n : ℕ) → n < length plan.nodes → IsFalse (is_misplaced plan.nodes n)
