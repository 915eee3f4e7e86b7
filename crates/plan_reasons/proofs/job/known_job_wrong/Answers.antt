use Rattle.std.proofs.Common.{◌≡◌, true, false, List, ℕ, string_bytes, sym, ap, ◌∙◌}
use Rattle.serde_json.specs.View.{view}
use Rattle.plan_parts.specs.JobWords.{job_keys}
use Rattle.plan_reasons.specs.declared.part.Part.{Part}
use Rattle.plan_reasons.specs.Jobs.{job_part}
use Rattle.plan_reasons.specs.Own.{has, key_faults}
use Rattle.plan_reasons.specs.Sentences.{unknown_key, wrong_part}
use Rattle.plan_reasons.proofs.Chosen.{said_as, first_chosen, second_chosen}
use Rattle.plan_reasons.proofs.job.known_job_wrong.Goals as goal

pub returns-then-is_in : goal.returns-then-is_in
returns-then-is_in c =
    let fault = c.args.fault in
    let who = c.args.name.now in
    let d = view c.args.value.now in
    let keys = job_keys c.args.word in
    let test : has fault (key_faults keys d) ≡ true =
    ap (λ (ks : List (List ℕ)). has fault (key_faults ks d)) (sym c.job_keys.ensures)
    ∙ ap (has fault) (sym c.key_faults.ensures) ∙ sym c.is_in.ensures ∙ c.if-is_in.true in
    said_as string_bytes c.unknown_key.result
    (ap (λ (ks : List (List ℕ)). unknown_key who ks d) c.job_keys-then-is_in.ensures
    ∙ first_chosen (has fault (key_faults keys d)) (unknown_key who keys d) (wrong_part fault who (job_part c.args.word d) d) test)
    c.unknown_key.ensures

pub returns-else-is_in : goal.returns-else-is_in
returns-else-is_in c =
    let fault = c.args.fault in
    let who = c.args.name.now in
    let d = view c.args.value.now in
    let keys = job_keys c.args.word in
    let test : has fault (key_faults keys d) ≡ false =
    ap (λ (ks : List (List ℕ)). has fault (key_faults ks d)) (sym c.job_keys.ensures)
    ∙ ap (has fault) (sym c.key_faults.ensures) ∙ sym c.is_in.ensures ∙ c.if-is_in.false in
    said_as string_bytes c.wrong_part.result
    (ap (λ (p : Part). wrong_part fault who p d) c.job_part.ensures
    ∙ second_chosen (has fault (key_faults keys d)) (unknown_key who keys d) (wrong_part fault who (job_part c.args.word d) d) test)
    c.wrong_part.ensures
