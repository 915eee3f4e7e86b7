-- A whole plan file: its settings, its nodes and what is wrong with it.
use Rattle.std.specs.Prelude.{ℕ, ℤ, pos, Bool, true, false, List, [], ◌∷◌, length, nat_lt, Option, Some, None, Result, Ok, Err, if◌then◌else◌, codes}
use Rattle.std.specs.Option.{option_map_or}
use Rattle.std.specs.Ordering.{int_eq}
use Rattle.std.specs.Str.{is_utf8}
use Rattle.serde_json.specs.Data.{Data}
use Rattle.serde_json.specs.Find.{get, as_str}
use Rattle.serde_json.specs.Read.{read}
use Rattle.exec_value.specs.declared.kinds.Kind.{Kind}
use Rattle.exec_value.specs.declared.kinds.Kind.TheVariants as kind
use Rattle.node_tree.specs.declared.scope_kind.ScopeKind.{ScopeKind}
use Rattle.node_tree.specs.declared.scope_kind.ScopeKind.TheVariants.{Simple, Counting}
use Rattle.plan_rules.specs.declared.settings.Settings.{Settings}
use Rattle.plan_shape.specs.declared.fault.BuildFault.{BuildFault}
use Rattle.plan_shape.specs.declared.limits.TheConstants.{MOST_STOP_AFTER}
use Rattle.plan_parts.specs.declared.reading.Faults.{Faults}
use Rattle.plan_parts.specs.declared.reading.Reading.{Reading}
use Rattle.plan_parts.specs.declared.reading.Reading.TheVariants.{Good, Bad}
use Rattle.plan_parts.specs.declared.reading.TheConstants.{FORM_FAULT, NAME_FAULT}
use Rattle.plan_parts.specs.Named.{named}
use Rattle.plan_parts.specs.Reading.{both, any_fault, known, mapped, paired}
use Rattle.plan_parts.specs.Objects.{number_of, integer_of, number_at, text_at, with_keys}
use Rattle.plan_parts.specs.Scalars.{count_read}
use Rattle.plan_reader.specs.Limits.{plan_limit}
use Rattle.plan_reader.specs.Walked.{Walked, at_start, child_at, walk}
use Rattle.plan_reader.specs.declared.found.Found.{Found}
use Rattle.plan_reader.specs.declared.fault.PlanFault.{PlanFault}
use Rattle.plan_reader.specs.declared.fault.PlanFault.TheVariants.{TooLong, NotJson, Form, UnknownName, Limit}
use Rattle.plan_reader.specs.declared.plan.TheConstants.{MOST_LEVELS}
use Rattle.plan_reader.specs.declared.read.TheConstants.{MOST_PLAN_BYTES}

-- whether the version is the number 1
abbrev pub is_one : Reading ℤ → Bool
is_one (Good n) = int_eq n (pos 1)
is_one (Bad faults) = false

abbrev pub is_first_version : Data → Bool
is_first_version d = is_one (number_at (codes "version") d)

-- the version: the number 1 or 2
abbrev pub version_of : ℤ → Reading ℕ
version_of n = if int_eq n (pos 1) then Good 1
    else (if int_eq n (pos 2) then Good 2 else Bad NAME_FAULT)

abbrev pub version_read : Reading ℤ → Reading ℕ
version_read (Good n) = version_of n
version_read (Bad faults) = Bad faults

-- the kind of the records
abbrev pub input_of : List ℕ → Reading Kind
input_of name =
    known (named ((codes "int", kind.Int) ∷ (codes "text", kind.Text) ∷
    (codes "row", kind.Row) ∷ []) name)

abbrev pub input_at : Data → Reading Kind
input_at d = option_map_or input_of (text_at (codes "input") d) (Bad FORM_FAULT)

-- the kind of the scope; none that is said is a counting one
abbrev pub scope_of : List ℕ → Reading ScopeKind
scope_of name = known (named ((codes "simple", Simple) ∷ (codes "counting", Counting) ∷ []) name)

abbrev pub scope_at : Data → Reading ScopeKind
scope_at d =
    option_map_or (λ s. option_map_or scope_of (as_str s) (Bad FORM_FAULT)) (get (codes "scope") d)
    (Good Counting)

-- the number of the record after which a stop is requested, if there is such a rule
abbrev pub stop_of : Data → Reading (Option ℕ)
stop_of s = mapped Some (count_read 1 MOST_STOP_AFTER (number_of (integer_of s)))

abbrev pub stop_at : Data → Reading (Option ℕ)
stop_at d = option_map_or stop_of (get (codes "stop_after") d) (Good None)

-- whether a stop is requested after an error; where nothing is said it isn't
abbrev pub on_error_of : List ℕ → Reading Bool
on_error_of name = known (named ((codes "go", false) ∷ (codes "stop", true) ∷ []) name)

abbrev pub on_error_at : Data → Reading Bool
on_error_at d =
    option_map_or (λ s. option_map_or on_error_of (as_str s) (Bad FORM_FAULT))
    (get (codes "on_error") d)
    (Good false)

-- the settings, of which each is read
abbrev pub with_rules : (ℕ × Kind) × (ScopeKind × (Option ℕ × Bool)) → Settings
with_rules parts = record {
  version = parts.0.0;
  input = parts.0.1;
  scope = parts.1.0;
  stop_after = parts.1.1.0;
  on_error_stop = parts.1.1.1;
}

unfoldable pub settings_of : Data → Reading Settings
settings_of d = mapped with_rules (paired
    (paired (version_read (number_at (codes "version") d)) (input_at d))
    (paired (scope_at d) (paired (stop_at d) (on_error_at d))))

-- the keys of a plan file
abbrev pub plan_keys : List (List ℕ)
plan_keys =
    codes "input" ∷ codes "on_error" ∷ codes "root" ∷ codes "scope" ∷ codes "stop_after"
    ∷ codes "version" ∷ []

-- the walk over all nodes
unfoldable pub walked_of : Data → Walked
walked_of d = child_at (walk MOST_LEVELS) (codes "root") d (at_start (is_first_version d))

-- what is wrong with a plan, of which the first counts: its form, a name, a limit
abbrev pub first_fault : Faults → PlanFault
first_fault faults = if faults.form then Form else (if faults.name then UnknownName else Limit)

-- nodes make a plan, the last of them its root, unless they pass a limit
abbrev pub found_unless : Option BuildFault → Settings → Walked → Result Found PlanFault
found_unless None settings w = Ok
    (record { plan = record { nodes = w.nodes; settings = settings }; elements = w.elements })
found_unless (Some fault) settings w = Err Limit

-- the nodes and the settings that were read
abbrev pub joined : Reading Settings → Walked → Result Found PlanFault
joined (Bad faults) w = Err (first_fault (both faults w.faults))
joined (Good settings) w =
    if any_fault w.faults then Err (first_fault w.faults)
    else found_unless (plan_limit w.nodes settings) settings w

-- the settings of a file; an unknown key is a fault
abbrev pub known_settings : Data → Reading Settings
known_settings d = with_keys plan_keys d (settings_of d)

-- the plan that a JSON value is, or what is wrong with it
unfoldable pub plan_of : Data → Result Found PlanFault
plan_of d = joined (known_settings d) (walked_of d)

-- the JSON value that `serde_json` reads; none where the bytes are no UTF-8 or it refuses the text
unfoldable pub json_of : List ℕ → Option Data
json_of bytes = if is_utf8 bytes then read bytes else None

-- the plan that bytes are, or what is wrong with them; of its kinds nothing is said yet
unfoldable pub found_in : List ℕ → Result Found PlanFault
found_in bytes =
    if nat_lt MOST_PLAN_BYTES (length bytes) then Err TooLong
    else option_map_or plan_of (json_of bytes) (Err NotJson)
