-- What a builder answers at the end, as the plan that was read.
use Rattle.std.proofs.Common.{◌≡◌, ℕ, false, Option, Some, None, Result, Ok, Err, refl, sym, ap, ◌∙◌, subst}
use Rattle.plan_rules.specs.declared.settings.Settings.{Settings}
use Rattle.plan_shape.specs.declared.fault.BuildFault.{BuildFault}
use Rattle.plan_shape.specs.declared.fault.BuildFault.TheVariants.{NoMemory}
use Rattle.plan_shape.specs.Blueprint.{Blueprint}
use Rattle.plan_shape.specs.Finish.{finish_fault}
use Rattle.plan_shape.specs.Refusals.{Answers}
use Rattle.plan_builder.specs.Finishing.{Finishes}
use Rattle.plan_parts.specs.declared.reading.Reading.TheVariants.{Good}
use Rattle.plan_parts.specs.Reading.{any_fault}
use Rattle.plan_reader.specs.Limits.{plan_limit}
use Rattle.plan_reader.specs.Roots.{HasOneRoot}
use Rattle.plan_reader.specs.Walked.{Walked, last}
use Rattle.plan_reader.specs.Plans.{found_unless, joined}
use Rattle.plan_reader.specs.declared.fault.PlanFault.TheVariants.{Limit}

unless-none : (o : Option BuildFault) (settings : Settings) (w : Walked) (plan : Blueprint)
    → Answers o (Ok plan)
    → found_unless o settings w
    ≡ Ok (record { plan = record { nodes = w.nodes; settings = settings }; elements = w.elements })
unless-none None settings w plan answer = refl
unless-none (Some f) settings w plan answer = cc

unless-some : (o : Option BuildFault) (settings : Settings) (w : Walked) (f : BuildFault)
    → Answers {T = Blueprint} o (Err f) → (f ≡ NoMemory → ⊥) → found_unless o settings w ≡ Err Limit
unless-some None settings w f answer other = absurd (other answer)
unless-some (Some g) settings w f answer other = refl

-- the builder gave a plan
pub joined-plan : (settings : Settings) (w : Walked) (root : ℕ) (r : Result Blueprint BuildFault)
    (plan : Blueprint)
    → any_fault w.faults ≡ false → HasOneRoot w settings → root ≡ last w → Finishes w.nodes root settings r → r ≡ Ok plan
    → joined (Good settings) w ≡ Ok (record { plan = plan; elements = w.elements })
joined-plan settings w root r plan is one rooted finishes ok =
    let R : Result Blueprint BuildFault → Type 0 = λ x. Finishes w.nodes root settings x in
    let gave = subst R ok finishes in
    let A : ℕ → Type 0 = λ n. Answers (finish_fault w.nodes n settings) (Ok plan) in
    let answer = subst (λ (o : Option BuildFault). Answers o (Ok plan)) (one is) (subst A rooted gave.answer) in
    let found = unless-none (plan_limit w.nodes settings) settings w plan answer in
    let same : plan ≡ record { nodes = w.nodes; settings = settings } = gave.plan in
    rw is (found ∙ ap (λ (p : Blueprint). Ok (record { plan = p; elements = w.elements })) (sym same))

-- the builder refused it
pub joined-refused : (settings : Settings) (w : Walked) (root : ℕ) (r : Result Blueprint BuildFault)
    (f : BuildFault)
    → any_fault w.faults ≡ false → HasOneRoot w settings → root ≡ last w → Finishes w.nodes root settings r → r ≡ Err f
    → (f ≡ NoMemory → ⊥) → joined (Good settings) w ≡ Err Limit
joined-refused settings w root r f is one rooted finishes err other =
    let R : Result Blueprint BuildFault → Type 0 = λ x. Finishes w.nodes root settings x in
    let gave = subst R err finishes in
    let A : ℕ → Type 0 = λ n. Answers {T = Blueprint} (finish_fault w.nodes n settings) (Err f) in
    let answer = subst (λ (o : Option BuildFault). Answers {T = Blueprint} o (Err f)) (one is) (subst A rooted gave.answer) in
    rw is (unless-some (plan_limit w.nodes settings) settings w f answer other)
