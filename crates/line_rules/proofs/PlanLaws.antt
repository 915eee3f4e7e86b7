-- What a plan allows its records.
use Rattle.std.specs.Prelude.{Option}
use Rattle.std.proofs.Common.{ℕ, ◌-◌, Bool, [], ◌∷◌, length}
use Rattle.exec_value.specs.declared.data.Datum.{Datum}
use Rattle.plan_rules.specs.Settle.{stop_state, settle_of}
use Rattle.plan_shape.specs.Blueprint.{Blueprint}
use Rattle.plan_laws.proofs.Covers.{may-covers}
use Rattle.plan_laws.proofs.Evaluation.{settled-allowed}
use Rattle.line_rules.specs.Moments.{Covers}
use Rattle.line_rules.specs.PlanTerms.{AllowsRecord, terms_of}

-- what is allowed in a stop state is allowed where a request may come
pub plan-covers : (WantsMemory : Blueprint → Type 0) (plan : Blueprint) (window : ℕ) → Covers (terms_of WantsMemory plan window)
unfolding AllowsRecord
plan-covers WantsMemory plan window = λ number datum stop completion allowed.
    may-covers plan.nodes (length plan.nodes - 1) (datum ∷ []) number stop completion allowed

-- plain evaluation gives a completion that is allowed
pub settled-allows : (plan : Blueprint) (number : ℕ) (datum : Datum) (asked : Bool) → AllowsRecord plan number datum (stop_state asked) (settle_of plan.nodes (length plan.nodes - 1) (datum ∷ []) number asked)
unfolding AllowsRecord
settled-allows plan number datum asked = settled-allowed plan.nodes (length plan.nodes - 1) (datum ∷ []) number asked
