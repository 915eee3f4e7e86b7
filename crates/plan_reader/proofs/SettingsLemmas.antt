-- That settings that are read are within their limits.
use Rattle.std.proofs.Common.{◌≡◌, ℕ, ℤ, pos, negsuc, Bool, true, false, List, Option, Some, None, refl, cond, arith}
use Rattle.std.specs.Prelude.{⊤, IsTrue, IfSome, codes}
use Rattle.std.specs.Option.{option_map_or}
use Rattle.std.specs.Ordering.{int_eq}
use Rattle.serde_json.specs.Data.{Data}
use Rattle.serde_json.specs.Find.{get}
use Rattle.exec_value.specs.declared.kinds.Kind.{Kind}
use Rattle.exec_value.specs.declared.kinds.Kind.TheVariants as kind
use Rattle.std.specs.Str.{bytes_eq}
use Rattle.node_tree.specs.declared.scope_kind.ScopeKind.{ScopeKind}
use Rattle.plan_rules.specs.declared.settings.Settings.{Settings}
use Rattle.plan_shape.specs.declared.limits.TheConstants.{MOST_STOP_AFTER}
use Rattle.plan_shape.specs.Blueprint.{AreSettings, IsRecordKind}
use Rattle.plan_shape.specs.Conditions.{is_within}
use Rattle.plan_parts.specs.declared.reading.Reading.{Reading}
use Rattle.plan_parts.specs.declared.reading.Reading.TheVariants.{Good, Bad}
use Rattle.plan_parts.specs.declared.reading.TheConstants.{NAME_FAULT, FORM_FAULT, LIMIT_FAULT}
use Rattle.plan_parts.specs.Reading.{IfGood, known, mapped, paired, blamed}
use Rattle.plan_parts.specs.Objects.{has_unknown_key, integer_of, number_at, number_of, text_at}
use Rattle.plan_parts.specs.Scalars.{count_read}
use Rattle.plan_reader.specs.Plans.{input_at, input_of, is_first_version, is_one, known_settings, on_error_at, plan_keys, scope_at, settings_of, stop_at, stop_of, version_read, with_rules}

IfGood-mapped : {A B : Type 0} (f : A → B) (P : A → Type 0) (Q : B → Type 0) (r : Reading A)
    → ((a : A) → P a → Q (f a)) → IfGood r P → IfGood (mapped f r) Q
IfGood-mapped f P Q (Good a) h p = h a p
IfGood-mapped f P Q (Bad faults) h p = tt

IfGood-paired : {A B : Type 0} (P : A → Type 0) (Q : B → Type 0) (r : Reading A) (s : Reading B)
    → IfGood r P → IfGood s Q → IfGood (paired r s) (λ (both : A × B). P both.0 × Q both.1)
IfGood-paired P Q (Good a) (Good b) p q = (p, q)
IfGood-paired P Q (Good a) (Bad faults) p q = tt
IfGood-paired P Q (Bad faults) (Good b) p q = tt
IfGood-paired P Q (Bad faults) (Bad others) p q = tt

IfGood-any : {A : Type 0} (r : Reading A) → IfGood r (λ (a : A). ⊤)
IfGood-any (Good a) = tt
IfGood-any (Bad faults) = tt

-- the version
abbrev IsVersion : ℕ → Type 0
IsVersion version = IsTrue (is_within 1 2 version)

version-cases : (one two : Bool)
    → IfGood (cond one (Good 1) (cond two (Good 2) (Bad NAME_FAULT))) IsVersion
version-cases true two = refl
version-cases false true = refl
version-cases false false = tt

version-is : (r : Reading ℤ) → IfGood (version_read r) IsVersion
version-is (Good n) = version-cases (int_eq n (pos 1)) (int_eq n (pos 2))
version-is (Bad faults) = tt

-- the kind of the records
named_input : (int text row : Bool)
    → IfGood (known (cond int (Some kind.Int) (cond text (Some kind.Text) (cond row (Some kind.Row) None)))) IsRecordKind
named_input true text row = tt
named_input false true row = tt
named_input false false true = tt
named_input false false false = tt

input_of-is : (name : List ℕ) → IfGood (input_of name) IsRecordKind
input_of-is name =
    named_input (bytes_eq name (codes "int")) (bytes_eq name (codes "text")) (bytes_eq name (codes "row"))

input-is : (d : Data) → IfGood (input_at d) IsRecordKind
input-is d = named_or_not (text_at (codes "input") d) where
  named_or_not : (o : Option (List ℕ)) → IfGood (option_map_or input_of o (Bad FORM_FAULT)) IsRecordKind
  named_or_not (Some name) = input_of-is name
  named_or_not None = tt

-- the rule of a stop after some records
abbrev IsStopRule : Option ℕ → Type 0
IsStopRule o = IfSome o (λ number. IsTrue (is_within 1 MOST_STOP_AFTER number))

within-case : (b : Bool) (n : ℕ) → is_within 1 MOST_STOP_AFTER n ≡ b
    → IfGood (cond b (Good n) (Bad LIMIT_FAULT)) (λ k. IsTrue (is_within 1 MOST_STOP_AFTER k))
within-case true n is = is
within-case false n is = tt

count-is : (r : Reading ℤ)
    → IfGood (count_read 1 MOST_STOP_AFTER r) (λ k. IsTrue (is_within 1 MOST_STOP_AFTER k))
count-is (Good (pos n)) = within-case (is_within 1 MOST_STOP_AFTER n) n refl
count-is (Good (negsuc n)) = tt
count-is (Bad faults) = tt

stop_of-is : (s : Data) → IfGood (stop_of s) IsStopRule
stop_of-is s =
    IfGood-mapped Some (λ k. IsTrue (is_within 1 MOST_STOP_AFTER k)) IsStopRule
    (count_read 1 MOST_STOP_AFTER (number_of (integer_of s))) (λ k is. is) (count-is (number_of (integer_of s)))

stop-is : (d : Data) → IfGood (stop_at d) IsStopRule
stop-is d = set_or_not (get (codes "stop_after") d) where
  set_or_not : (o : Option Data) → IfGood (option_map_or stop_of o (Good None)) IsStopRule
  set_or_not (Some s) = stop_of-is s
  set_or_not None = tt

-- the settings
settings_of-are : (d : Data) → IfGood (settings_of d) AreSettings
unfolding settings_of
settings_of-are d =
    let version = version_read (number_at (codes "version") d) in
    let rules = paired (stop_at d) (on_error_at d) in
    let kinds = IfGood-paired IsVersion IsRecordKind version (input_at d)
    (version-is (number_at (codes "version") d)) (input-is d) in
    let stop = IfGood-paired IsStopRule (λ (b : Bool). ⊤) (stop_at d) (on_error_at d)
    (stop-is d) (IfGood-any (on_error_at d)) in
    let scoped = IfGood-paired (λ (s : ScopeKind). ⊤) (λ (p : Option ℕ × Bool). IsStopRule p.0 × ⊤)
    (scope_at d) rules (IfGood-any (scope_at d)) stop in
    let all = IfGood-paired (λ (p : ℕ × Kind). IsVersion p.0 × IsRecordKind p.1)
    (λ (p : ScopeKind × (Option ℕ × Bool)). ⊤ × (IsStopRule p.1.0 × ⊤))
    (paired version (input_at d)) (paired (scope_at d) rules) kinds scoped in
    IfGood-mapped with_rules
    (λ (p : (ℕ × Kind) × (ScopeKind × (Option ℕ × Bool))).
    (IsVersion p.0.0 × IsRecordKind p.0.1) × (⊤ × (IsStopRule p.1.1.0 × ⊤)))
    AreSettings (paired (paired version (input_at d)) (paired (scope_at d) rules))
    (λ p are. record { version = are.0.0; input = are.0.1; stop_after = are.1.1.0 }) all

unless_unknown : (P : Settings → Type 0) (b : Bool) (r : Reading Settings) → IfGood r P
    → IfGood (cond b (blamed NAME_FAULT r) r) P
unless_unknown P true (Good settings) are = tt
unless_unknown P true (Bad faults) are = tt
unless_unknown P false r are = are

pub known_settings-are : (d : Data) → IfGood (known_settings d) AreSettings
known_settings-are d =
    unless_unknown AreSettings (has_unknown_key plan_keys d) (settings_of d) (settings_of-are d)

-- the version that was read is 1 only where the number is
first-cases : (n : ℤ) (one two : Bool) → int_eq n (pos 1) ≡ one
    → IfGood (cond one (Good 1) (cond two (Good 2) (Bad NAME_FAULT))) (λ (v : ℕ). v ≡ 1 → int_eq n (pos 1) ≡ true)
first-cases n true two is = λ e. is
first-cases n false true is = λ e. absurd (omega (arith, e))
first-cases n false false is = tt

first-is : (r : Reading ℤ) → IfGood (version_read r) (λ (v : ℕ). v ≡ 1 → is_one r ≡ true)
first-is (Good n) = first-cases n (int_eq n (pos 1)) (int_eq n (pos 2)) refl
first-is (Bad faults) = tt

-- settings of version 1 were read of a file of version 1
abbrev pub IsFirstOf : Data → Settings → Type 0
IsFirstOf d settings = settings.version ≡ 1 → is_first_version d ≡ true

settings_of-first : (d : Data) → IfGood (settings_of d) (IsFirstOf d)
unfolding settings_of
settings_of-first d =
    let version = version_read (number_at (codes "version") d) in
    let rules = paired (stop_at d) (on_error_at d) in
    let kinds = IfGood-paired (λ (v : ℕ). v ≡ 1 → is_first_version d ≡ true) (λ (k : Kind). ⊤)
    version (input_at d) (first-is (number_at (codes "version") d)) (IfGood-any (input_at d)) in
    let all = IfGood-paired (λ (p : ℕ × Kind). (p.0 ≡ 1 → is_first_version d ≡ true) × ⊤)
    (λ (p : ScopeKind × (Option ℕ × Bool)). ⊤)
    (paired version (input_at d)) (paired (scope_at d) rules) kinds (IfGood-any (paired (scope_at d) rules)) in
    IfGood-mapped with_rules
    (λ (p : (ℕ × Kind) × (ScopeKind × (Option ℕ × Bool))). ((p.0.0 ≡ 1 → is_first_version d ≡ true) × ⊤) × ⊤)
    (IsFirstOf d) (paired (paired version (input_at d)) (paired (scope_at d) rules)) (λ p is. is.0.0) all

pub known_settings-first : (d : Data) → IfGood (known_settings d) (IsFirstOf d)
known_settings-first d =
    unless_unknown (IsFirstOf d) (has_unknown_key plan_keys d) (settings_of d) (settings_of-first d)
