-- Nothing but a limit stands against a plan of the nodes that a walk over a file made.
use Rattle.std.proofs.Common.{◌≡◌, ◌<◌, ℕ, Bool, true, false, not, [], ◌∷◌, length, Option, None, refl, sym, ap, ◌∙◌, subst, arith}
use Rattle.std.specs.Prelude.{◌&&◌, ◌==◌, codes, nat_eq}
use Rattle.std.specs.Option.{option_map, option_or}
use Rattle.std.proofs.lemmas.Bool.{eq-eqb, eqb-true, false≢true}
use Rattle.common_lemmas.proofs.Bool.{either}
use Rattle.serde_json.specs.Data.{Data}
use Rattle.plan_rules.specs.declared.settings.Settings.{Settings}
use Rattle.plan_shape.specs.declared.fault.BuildFault.{BuildFault}
use Rattle.plan_shape.specs.declared.fault.BuildFault.TheVariants.{Loose, Misplaced, TooManyNodes, UsedChild, Version}
use Rattle.plan_shape.specs.Finish.{finish_fault, is_loose, is_misplaced, is_of_version_2, is_too_large, is_too_new, passes}
use Rattle.plan_shape.specs.Least.{least}
use Rattle.plan_shape.specs.Parents.{is_free}
use Rattle.plan_shape.specs.Refusals.{fault_if}
use Rattle.plan_shape.proofs.LeastLemmas.{least-None}
use Rattle.std.proofs.Math.Bool.{or-false, and-false, and-not_self}
use Rattle.plan_parts.specs.declared.reading.Reading.{Reading}
use Rattle.plan_parts.specs.declared.reading.Reading.TheVariants.{Good, Bad}
use Rattle.plan_parts.specs.Reading.{IfGood, any_fault}
use Rattle.plan_reader.specs.Limits.{plan_limit}
use Rattle.plan_reader.specs.Plans.{is_first_version, known_settings, walked_of}
use Rattle.plan_reader.specs.Roots.{HasOneRoot, IsTidy}
use Rattle.plan_reader.specs.Walked.{Walked, at_start, last, walk}
use Rattle.plan_reader.specs.declared.plan.TheConstants.{MOST_LEVELS}
use Rattle.plan_reader.proofs.RootedWalk.{Leads, child-leads, walk-gives_root}
use Rattle.plan_reader.proofs.SettingsLemmas.{IsFirstOf, known_settings-first}

-- before the first node
pub start-tidy : (is_first : Bool) → IsTidy (at_start is_first)
start-tidy is_first none = record {
  ordered = λ child parent t. absurd (false≢true t);
  early = λ first n. refl;
}

-- one root, and nodes of the plan's version
record IsRooted (w : Walked) (settings : Settings) : Type 0 where
  root : is_free w.nodes (last w) ≡ true
  loose : (n : ℕ) → n < length w.nodes → is_loose w.nodes (last w) n ≡ false
  new : (n : ℕ) → n < length w.nodes → is_too_new settings w.nodes n ≡ false

rooted-limit : (w : Walked) (settings : Settings) → IsRooted w settings
    → finish_fault w.nodes (last w) settings ≡ plan_limit w.nodes settings
rooted-limit w settings rooted =
    let size : ℕ = length w.nodes in
    let large : Option BuildFault = fault_if (is_too_large settings w.nodes) TooManyNodes in
    let misplaced : Option BuildFault = option_map Misplaced (least (is_misplaced w.nodes) size) in
    let loose : Option BuildFault = option_map Loose (least (is_loose w.nodes (last w)) size) in
    let new : Option BuildFault = option_map Version (least (is_too_new settings w.nodes) size) in
    let no_used : fault_if (not (is_free w.nodes (last w))) (UsedChild (last w)) ≡ None =
    ap (λ b. fault_if (not b) (UsedChild (last w))) rooted.root in
    let no_loose : loose ≡ None =
    ap (option_map Loose) (least-None (is_loose w.nodes (last w)) size rooted.loose) in
    let no_new : new ≡ None =
    ap (option_map Version) (least-None (is_too_new settings w.nodes) size rooted.new) in
    ap (λ o. option_or o (option_or large (option_or loose (option_or new misplaced)))) no_used
    ∙ ap (λ o. option_or large (option_or o (option_or new misplaced))) no_loose
    ∙ ap (λ o. option_or large (option_or o misplaced)) no_new

leads-rooted : (is_first : Bool) (w : Walked) (settings : Settings)
    → Leads (at_start is_first) w (last w ∷ []) → (settings.version ≡ 1 → is_first ≡ true)
    → any_fault w.faults ≡ false → IsRooted w settings
leads-rooted is_first w settings leads version none =
    let r = (leads none).rooted in
    let free : (n : ℕ) → is_free w.nodes n ≡ nat_eq n (last w) =
    λ n. r.free n (omega arith) ∙ or-false (nat_eq n (last w)) in
    record {
      root = free (last w) ∙ eq-eqb (last w) (last w) refl;
      loose = λ n within.
          ap (λ b. b && not (nat_eq n (last w))) (free n) ∙ and-not_self (nat_eq n (last w));
      new = λ n within.
          either (settings.version == 1)
          (λ t.
          ap (λ b. settings.version == 1 && b) (r.tidy.early (version (eqb-true settings.version 1 t)) n)
          ∙ and-false (settings.version == 1))
          (λ f. ap (λ b. b && passes is_of_version_2 w.nodes n) f);
    }

-- the walk over a file
walked-leads : (d : Data) → Leads (at_start (is_first_version d)) (walked_of d) (last (walked_of d) ∷ [])
unfolding walked_of
walked-leads d =
    child-leads (walk MOST_LEVELS) (codes "root") d (at_start (is_first_version d))
    (walk-gives_root MOST_LEVELS) (start-tidy (is_first_version d))

if_read : (d : Data) (r : Reading Settings) → IfGood r (IsFirstOf d) → IfGood r (HasOneRoot (walked_of d))
if_read d (Good settings) first =
    λ none.
    rooted-limit (walked_of d) settings
    (leads-rooted (is_first_version d) (walked_of d) settings (walked-leads d) first none)
if_read d (Bad faults) first = tt

pub has_one_root : (d : Data) → IfGood (known_settings d) (HasOneRoot (walked_of d))
has_one_root d = if_read d (known_settings d) (known_settings-first d)

-- the same of what was read of the settings and of the nodes
pub has_one_root-read : (d : Data) (r : Reading Settings) (w : Walked)
    → r ≡ known_settings d → w ≡ walked_of d → IfGood r (HasOneRoot w)
has_one_root-read d r w settings walked =
    let P : Walked → Type 0 = λ v. IfGood r (HasOneRoot v) in
    let Q : Reading Settings → Type 0 = λ s. IfGood s (HasOneRoot (walked_of d)) in
    subst P (sym walked) (subst Q (sym settings) (has_one_root d))
