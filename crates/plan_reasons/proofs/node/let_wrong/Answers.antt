use Rattle.std.proofs.Common.{◌≡◌, true, false, codes, string_bytes, sym, ap, ◌∙◌}
use Rattle.serde_json.specs.View.{view}
use Rattle.plan_shape.specs.declared.limits.TheConstants.{MOST_BODIES}
use Rattle.plan_reasons.specs.declared.part.Part.TheVariants as part
use Rattle.plan_reasons.specs.Jobs.{job_wrong_at}
use Rattle.plan_reasons.specs.Own.{has, list_faults}
use Rattle.plan_reasons.specs.Sentences.{wrong_at}
use Rattle.plan_reasons.proofs.Chosen.{said_as, first_chosen, second_chosen}
use Rattle.plan_reasons.proofs.node.let_wrong.Goals as goal

pub returns-then-is_in : goal.returns-then-is_in
returns-then-is_in c =
    let fault = c.args.fault in
    let who = c.args.who.now in
    let d = view c.args.value.now in
    let bodies = list_faults 1 MOST_BODIES (codes "bodies") d in
    let test : has fault bodies ≡ true = ap (has fault) (sym c.list_faults.ensures) ∙ sym c.is_in.ensures ∙ c.if-is_in.true in
    said_as string_bytes c.wrong_at.result
    (first_chosen (has fault bodies) (wrong_at who part.Bodies d) (job_wrong_at fault false who part.Pick d) test)
    c.wrong_at.ensures

pub returns-else-is_in : goal.returns-else-is_in
returns-else-is_in c =
    let fault = c.args.fault in
    let who = c.args.who.now in
    let d = view c.args.value.now in
    let bodies = list_faults 1 MOST_BODIES (codes "bodies") d in
    let test : has fault bodies ≡ false = ap (has fault) (sym c.list_faults.ensures) ∙ sym c.is_in.ensures ∙ c.if-is_in.false in
    said_as string_bytes c.job_wrong_at.result
    (second_chosen (has fault bodies) (wrong_at who part.Bodies d) (job_wrong_at fault false who part.Pick d) test)
    c.job_wrong_at.ensures
