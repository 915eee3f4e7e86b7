-- For what the hands of a run claim blocks.
use Rattle.std.specs.Prelude.{◌≡◌, ℕ, ◌+◌, false}
use Rattle.plan_shape.specs.Blueprint.{Blueprint}
use Rattle.line_rules.specs.PlanTerms.{has_ahead}

-- Blocks were claimed for so many operations of the plan, one for each, and one for each first
-- child of an `ahead` that was spawned: none where the plan has no `ahead`.
pub record HasWorked (plan : Blueprint) (operations claimed : ℕ) : Type 0 where
  pub spawned : ℕ
  pub claims : claimed ≡ operations + spawned
  pub unspawned : has_ahead plan ≡ false → spawned ≡ 0
