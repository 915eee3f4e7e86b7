use Rattle.std.proofs.Common.{◌≡◌, ℕ, List, sym, ap, ◌∙◌, subst}
use Rattle.serde_json.specs.View.{view}
use Rattle.plan_rules.specs.declared.settings.Settings.{Settings}
use Rattle.plan_shape.specs.Blueprint.{AreSettings}
use Rattle.plan_parts.specs.declared.reading.Reading.{Reading}
use Rattle.plan_parts.specs.Reading.{IfGood}
use Rattle.plan_parts.specs.Objects.{with_keys}
use Rattle.plan_reader.specs.Plans.{known_settings, plan_keys}
use Rattle.plan_reader.proofs.SettingsLemmas.{known_settings-are}
use Rattle.plan_reader.proofs.plan.known_settings.Goals as goal

pub returns : goal.returns
returns c =
    let d = view c.args.value.now in
    let same : c.with_keys.result ≡ known_settings d =
    c.with_keys.ensures
    ∙ ap (λ (ks : List (List ℕ)). with_keys ks d c.settings_of.result) c.plan_keys.ensures
    ∙ ap (λ (r : Reading Settings). with_keys plan_keys d r) c.settings_of.ensures in
    let P : Reading Settings → Type 0 = λ r. IfGood r AreSettings in
    record { value = same; settings = subst P (sym same) (known_settings-are d) }
