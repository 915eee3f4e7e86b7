-- The settings of a plan are read back as they were written.
use Rattle.std.specs.Prelude.{◌==◌, nat_le, IsTrue, IfSome}
use Rattle.std.proofs.Common.{◌≡◌, ℕ, zero, suc, ◌≤◌, Bool, true, false, Option, Some, None, refl, ap, ◌∙◌, arith}
use Rattle.std.proofs.lemmas.Bool.{and_parts, leb-true}
use Rattle.serde_json.specs.Data.{Data, number, unsigned, object}
use Rattle.exec_value.specs.declared.kinds.Kind.{Kind}
use Rattle.exec_value.specs.declared.kinds.Kind.TheVariants as kind
use Rattle.node_tree.specs.declared.scope_kind.ScopeKind.{ScopeKind}
use Rattle.node_tree.specs.declared.scope_kind.ScopeKind.TheVariants.{Simple, Counting}
use Rattle.plan_rules.specs.declared.settings.Settings.{Settings}
use Rattle.plan_shape.specs.declared.limits.TheConstants.{MOST_STOP_AFTER}
use Rattle.plan_shape.specs.Blueprint.{AreSettings, IsRecordKind}
use Rattle.plan_shape.specs.Conditions.{is_within}
use Rattle.plan_parts.specs.declared.reading.Reading.{Reading}
use Rattle.plan_parts.specs.declared.reading.Reading.TheVariants.{Good}
use Rattle.plan_parts.specs.Reading.{mapped, paired}
use Rattle.plan_parts.specs.Objects.{integer_of, number_of}
use Rattle.plan_reader.specs.Plans.{input_of, is_first_version, known_settings, on_error_of, scope_of, settings_of, stop_of, version_read, with_rules}
use Rattle.plan_writer.specs.Canonical.{on_error_name, plan_members, scope_name}
use Rattle.plan_writer.specs.Nodes.{kind_name}
use Rattle.plan_writer.proofs.JobsBack.{count-back}

version-back : (v : ℕ) → is_within 1 2 v ≡ true → version_read (number_of (integer_of (number (unsigned v)))) ≡ Good v
version-back zero is = absurd (omega (arith, leb-true 1 0 (and_parts (nat_le 1 0) (nat_le 0 2) is).0))
version-back (suc zero) is = refl
version-back (suc (suc zero)) is = refl
version-back (suc (suc (suc v))) is =
    let n : ℕ = suc (suc (suc v)) in
    absurd (omega (arith, leb-true n 2 (and_parts (nat_le 1 n) (nat_le n 2) is).1))

input-back : (k : Kind) → IsRecordKind k → input_of (kind_name k) ≡ Good k
input-back kind.Int is = refl
input-back kind.Text is = refl
input-back kind.Row is = refl
input-back k is = absurd is

scope-back : (s : ScopeKind) → scope_of (scope_name s) ≡ Good s
scope-back Simple = refl
scope-back Counting = refl

on_error-back : (stop : Bool) → on_error_of (on_error_name stop) ≡ Good stop
on_error-back true = refl
on_error-back false = refl

stop-back : (records : ℕ) → is_within 1 MOST_STOP_AFTER records ≡ true
    → stop_of (number (unsigned records)) ≡ Good (Some records)
stop-back records is =
    let parts = and_parts (nat_le 1 records) (nat_le records MOST_STOP_AFTER) is in
    let least = leb-true 1 records parts.0 in
    let most : records ≤ 1000000 = leb-true records MOST_STOP_AFTER parts.1 in
    ap (mapped Some) (count-back 1 MOST_STOP_AFTER records least most (omega (arith, most)))

-- five parts that are read make the settings
five-back : (v : Reading ℕ) (i : Reading Kind) (s : Reading ScopeKind) (t : Reading (Option ℕ)) (e : Reading Bool)
    (version : ℕ) (input : Kind) (scope : ScopeKind) (stop : Option ℕ) (error : Bool)
    → v ≡ Good version → i ≡ Good input → s ≡ Good scope → t ≡ Good stop → e ≡ Good error
    → mapped with_rules (paired (paired v i) (paired s (paired t e)))
    ≡ Good (with_rules ((version, input), (scope, (stop, error))))
five-back v i s t e version input scope stop error a b c d f =
    ap (λ x. mapped with_rules (paired (paired x i) (paired s (paired t e)))) a
    ∙ ap (λ x. mapped with_rules (paired (paired (Good version) x) (paired s (paired t e)))) b
    ∙ ap (λ x. mapped with_rules (paired (paired (Good version) (Good input)) (paired x (paired t e)))) c
    ∙ ap (λ x. mapped with_rules (paired (paired (Good version) (Good input)) (paired (Good scope) (paired x e)))) d
    ∙ ap (λ x. mapped with_rules (paired (paired (Good version) (Good input)) (paired (Good scope) (paired (Good stop) x)))) f

fields-back : (version : ℕ) (input : Kind) (scope : ScopeKind) (stop : Option ℕ) (error : Bool) (root : Data)
    → is_within 1 2 version ≡ true → IsRecordKind input
    → IfSome stop (λ records. IsTrue (is_within 1 MOST_STOP_AFTER records))
    → known_settings (object (plan_members (with_rules ((version, input), (scope, (stop, error)))) root))
    ≡ Good (with_rules ((version, input), (scope, (stop, error))))
unfolding settings_of
fields-back version input scope None error root is kind_is stop_is =
    five-back (version_read (number_of (integer_of (number (unsigned version))))) (input_of (kind_name input))
    (scope_of (scope_name scope)) (Good None) (on_error_of (on_error_name error)) version input scope None error
    (version-back version is) (input-back input kind_is) (scope-back scope) refl (on_error-back error)
fields-back version input scope (Some records) error root is kind_is stop_is =
    five-back (version_read (number_of (integer_of (number (unsigned version))))) (input_of (kind_name input))
    (scope_of (scope_name scope)) (stop_of (number (unsigned records))) (on_error_of (on_error_name error)) version input scope (Some records) error
    (version-back version is) (input-back input kind_is) (scope-back scope) (stop-back records stop_is) (on_error-back error)

pub settings-back : (settings : Settings) (root : Data) → AreSettings settings
    → known_settings (object (plan_members settings root)) ≡ Good settings
settings-back settings root are =
    fields-back settings.version settings.input settings.scope settings.stop_after settings.on_error_stop root
    are.version are.input are.stop_after

-- whether the version is the first
first-of : (v : ℕ) (stop : Option ℕ) (input : Kind) (scope : ScopeKind) (error : Bool) (root : Data) → is_within 1 2 v ≡ true
    → is_first_version (object (plan_members (with_rules ((v, input), (scope, (stop, error)))) root)) ≡ (v == 1)
first-of zero stop input scope error root is = absurd (omega (arith, leb-true 1 0 (and_parts (nat_le 1 0) (nat_le 0 2) is).0))
first-of (suc zero) None input scope error root is = refl
first-of (suc zero) (Some records) input scope error root is = refl
first-of (suc (suc zero)) None input scope error root is = refl
first-of (suc (suc zero)) (Some records) input scope error root is = refl
first-of (suc (suc (suc v))) stop input scope error root is =
    let n : ℕ = suc (suc (suc v)) in
    absurd (omega (arith, leb-true n 2 (and_parts (nat_le 1 n) (nat_le n 2) is).1))

pub first-back : (settings : Settings) (root : Data) → AreSettings settings
    → is_first_version (object (plan_members settings root)) ≡ (settings.version == 1)
first-back settings root are =
    first-of settings.version settings.stop_after settings.input settings.scope settings.on_error_stop root are.version
