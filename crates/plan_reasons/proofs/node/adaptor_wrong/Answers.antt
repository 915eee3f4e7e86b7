use Rattle.std.proofs.Common.{◌≡◌, ℕ, List, string_bytes, refl, ap, ◌∙◌}
use Rattle.serde_json.specs.Data.{Data}
use Rattle.serde_json.specs.View.{view}
use Rattle.plan_reader.specs.declared.node_word.Adaptor.{Adaptor}
use Rattle.plan_reader.specs.declared.node_word.Adaptor.TheVariants.{Then, UponError, UponStopped, StartsOn, ContinuesOn, StoppedAsOptional, StoppedAsError, Unstoppable}
use Rattle.plan_reasons.specs.declared.own.Fault.{Fault}
use Rattle.plan_reasons.specs.declared.part.Part.{Part}
use Rattle.plan_reasons.specs.Nodes.{adaptor_part, adaptor_wrong}
use Rattle.plan_reasons.specs.Sentences.{wrong_at}
use Rattle.plan_reasons.proofs.Chosen.{said_as}
use Rattle.plan_reasons.proofs.node.adaptor_wrong.Goals as goal

-- of an adaptor without a job its part is named
without_job : (fault : Fault) (who : List ℕ) (adaptor : Adaptor) (d : Data) → (adaptor ≡ Then → ⊥) → (adaptor ≡ UponError → ⊥) → (adaptor ≡ UponStopped → ⊥) → wrong_at who (adaptor_part adaptor) d ≡ adaptor_wrong fault who adaptor d
without_job fault who Then d not_so _ _ = absurd (not_so refl)
without_job fault who UponError d _ not_so _ = absurd (not_so refl)
without_job fault who UponStopped d _ _ not_so = absurd (not_so refl)
without_job fault who StartsOn d _ _ _ = refl
without_job fault who ContinuesOn d _ _ _ = refl
without_job fault who StoppedAsOptional d _ _ _ = refl
without_job fault who StoppedAsError d _ _ _ = refl
without_job fault who Unstoppable d _ _ _ = refl

pub returns-in_default : goal.returns-in_default
returns-in_default c =
    let who = c.args.who.now in
    let d = view c.args.value.now in
    said_as string_bytes c.wrong_at.result
    (ap (λ (p : Part). wrong_at who p d) c.adaptor_part.ensures
    ∙ without_job c.args.fault who c.args.adaptor d c.in_default.not-Then c.in_default.not-UponError c.in_default.not-UponStopped)
    c.wrong_at.ensures
