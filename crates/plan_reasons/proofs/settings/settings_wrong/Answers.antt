use Rattle.std.proofs.Common.{◌≡◌, false, List, ℕ, codes, string_bytes, sym, ap, ◌∙◌}
use Rattle.serde_json.specs.View.{view}
use Rattle.plan_reader.specs.Plans.{plan_keys}
use Rattle.plan_reasons.specs.declared.part.Part.{Part}
use Rattle.plan_reasons.specs.Own.{has, key_faults}
use Rattle.plan_reasons.specs.Sentences.{unknown_key, wrong_at}
use Rattle.plan_reasons.specs.Settings.{settings_wrong, wrong_setting}
use Rattle.plan_reasons.proofs.Chosen.{said_as, second_chosen}
use Rattle.plan_reasons.proofs.settings.settings_wrong.Goals as goal

pub returns-else-is_in : goal.returns-else-is_in
unfolding settings_wrong
returns-else-is_in c =
    let fault = c.args.fault in
    let plan = codes "a plan" in
    let d = view c.args.value.now in
    let test : has fault (key_faults plan_keys d) ≡ false =
    ap (λ (ks : List (List ℕ)). has fault (key_faults ks d)) (sym c.plan_keys.ensures)
    ∙ ap (has fault) (sym c.key_faults.ensures) ∙ sym c.is_in.ensures ∙ c.if-is_in.false in
    said_as string_bytes c.wrong_at.result
    (ap (λ (p : Part). wrong_at plan p d) c.wrong_setting.ensures
    ∙ second_chosen (has fault (key_faults plan_keys d)) (unknown_key plan plan_keys d) (wrong_at plan (wrong_setting fault d) d) test)
    c.wrong_at.ensures
