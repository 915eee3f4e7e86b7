-- What is known of bytes that are a plan.
use Rattle.std.proofs.Common.{ℕ, List, Result, Ok, Err, sym, subst}
use Rattle.std.specs.Prelude.{IfOk}
use Rattle.plan_shape.specs.Blueprint.{Blueprint}
use Rattle.plan_kinds.specs.Reached.{KindsMatch}
use Rattle.plan_reader.specs.PlanFile.{IsPlanOf}

-- its kinds match
pub plan-matches : (bytes : List ℕ) (plan : Blueprint) → IsPlanOf bytes plan → KindsMatch plan.nodes plan.settings.input
plan-matches bytes plan is =
    let P : Blueprint → Type 0 = λ p. KindsMatch p.nodes p.settings.input in
    subst P (sym is.2.same) is.2.matches.kinds

-- what follows of a value that there is
pub if-ok : {T E : Type 0} (r : Result T E) (P Q : T → Type 0) → ((x : T) → P x → Q x) → IfOk r P → IfOk r Q
if-ok (Ok x) P Q more is = more x is
if-ok (Err e) P Q more is = tt
