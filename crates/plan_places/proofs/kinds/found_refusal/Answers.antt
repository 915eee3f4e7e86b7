use Rattle.std.proofs.Common.{Bool, Result, Ok, Err, IfOk, sym, subst}
use Rattle.serde_json.specs.View.{view}
use Rattle.plan_reader.specs.declared.fault.PlanFault.TheVariants.{Kinds}
use Rattle.plan_reader.specs.PlanFile.{IsRefused}
use Rattle.plan_places.specs.declared.refusal.Refusal.{Refusal}
use Rattle.plan_places.specs.Refusals.{TellsKinds, TellsOtherJob}
use Rattle.plan_places.proofs.kinds.found_refusal.Goals as goal

-- what is told whatever holds
whatever : {E : Type 0} (A : Type 0) (P : Refusal → Type 0) (r : Result Refusal E) → IfOk r P → IfOk r (λ refusal. A → P refusal)
whatever A P (Ok refusal) is = λ a. is
whatever A P (Err e) is = tt

pub returns-then-found : goal.returns-then-found
returns-then-found c =
    let found = c.args.found.now in
    let P : Bool → Type 0 = λ b. IfOk c.mismatch_refusal.result
    (λ refusal. IsRefused found Kinds → TellsKinds b (view c.args.value.now) found refusal) in
    subst P (sym c.if-found.true) c.mismatch_refusal.ensures

pub returns-else-found : goal.returns-else-found
returns-else-found c =
    let found = c.args.found.now in
    let P : Bool → Type 0 = λ b. IfOk c.other_job_refusal.result
    (λ refusal. IsRefused found Kinds → TellsKinds b (view c.args.value.now) found refusal) in
    subst P (sym c.if-found.false)
    (whatever (IsRefused found Kinds) (TellsOtherJob (view c.args.value.now)) c.other_job_refusal.result c.other_job_refusal.ensures)
