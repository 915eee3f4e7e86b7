-- What is told of a refusal: a cause, where it is, and why.
use Rattle.std.specs.Prelude.{◌≡◌, ℕ, ◌-◌, false, List, [], ◌∷◌, ◌++◌, length, string_bytes, Option, Some, None, option_and_then, option_map, if◌then◌else◌, codes, decimal}
use Rattle.std.specs.List.{concat}
use Rattle.std.specs.Option.{option_map_or, option_or, unwrap_or}
use Rattle.serde_json.specs.Data.{Data}
use Rattle.serde_json.specs.Find.{get}
use Rattle.plan_rules.specs.declared.node.Node.{Node}
use Rattle.plan_shape.specs.declared.limits.TheConstants.{MOST_DEPTH}
use Rattle.plan_kinds.specs.declared.sig.Sig.{Sig}
use Rattle.plan_reader.specs.declared.plan.TheConstants.{MOST_LEVELS}
use Rattle.plan_reader.specs.Plans.{is_first_version, known_settings}
use Rattle.plan_reasons.specs.declared.own.Fault.{Fault}
use Rattle.plan_reasons.specs.declared.own.Fault.TheVariants as fault
use Rattle.plan_reasons.specs.Kinds.{mismatch_at}
use Rattle.plan_reasons.specs.Own.{faults_of}
use Rattle.plan_reasons.specs.Settings.{excluded, settings_wrong}
use Rattle.plan_places.specs.declared.refusal.Cause.{Cause}
use Rattle.plan_places.specs.declared.refusal.Cause.TheVariants as cause
use Rattle.plan_places.specs.declared.refusal.Refusal.{Refusal}
use Rattle.plan_places.specs.declared.seeking.Spot.{Spot}
use Rattle.plan_places.specs.declared.sought.Sought.{Sought}
use Rattle.plan_places.specs.declared.sought.Sought.TheVariants as sought
use Rattle.plan_places.specs.Seeking.{Site, first_at}
use Rattle.plan_places.specs.Ways.{way}

-- the places that are no node: the file as a whole, its keys beside `root`, and a line and column
abbrev pub whole : List ℕ
whole = []

abbrev pub own_keys : List ℕ
own_keys = codes " in the plan's own keys"

abbrev pub position_text : ℕ → ℕ → List ℕ
position_text line column =
    concat (codes " at line " ∷ decimal line ∷ codes ", column " ∷ decimal column ∷ [])

-- a node by its path
abbrev pub at_path : List ℕ → List ℕ
at_path path = codes " at " ++ path

-- a node that was found, or none
abbrev pub site_of : Spot → Site
site_of spot = record { path = spot.path.items; reason = string_bytes spot.reason }

abbrev pub IsSite : Option Site → Option Spot → Type 0
IsSite wanted found = option_map site_of found ≡ wanted

-- any line and column: no definition has those that `serde_json` tells
abbrev pub IsPosition : List ℕ → Type 0
IsPosition text = (line : ℕ) × (column : ℕ) × (text ≡ position_text line column)

-- what is told: a cause, where it is, and why
pub record Telling : Type 0 where
  pub cause : Cause
  pub place : List ℕ
  pub reason : List ℕ

-- the refusal tells this
pub record Tells (telling : Telling) (refusal : Refusal) : Type 0 where
  pub cause_is : refusal.cause ≡ telling.cause
  pub place_is : refusal.place.items ≡ telling.place
  pub reason_is : string_bytes refusal.reason ≡ telling.reason

-- of a node, of the keys beside `root`, and of the whole file
abbrev pub at_site : Cause → Site → Telling
at_site cause site = record { cause = cause; place = at_path site.path; reason = site.reason }

abbrev pub in_keys : Cause → List ℕ → Telling
in_keys cause reason = record { cause = cause; place = own_keys; reason = reason }

abbrev pub of_whole : Cause → List ℕ → Telling
of_whole cause reason = record { cause = cause; place = whole; reason = reason }

-- the first node of a file that is sought
unfoldable pub first_of : Sought → Data → Option Site
first_of sought d =
    option_and_then (first_at (is_first_version d) MOST_LEVELS sought (codes "root"))
    (get (codes "root") d)

-- of a fault of form, and of a name that isn't known: where no node has it, the keys beside `root`
-- do, or `root` isn't there
abbrev pub faulty : Cause → Fault → Data → Telling
faulty cause fault d =
    option_map_or (at_site cause) (first_of (sought.Own fault) d)
    (in_keys cause (settings_wrong fault d))

-- of a limit: a number, a length or a count of a node, then of the settings; a node that is too
-- deep; an `ahead` where none may stand; and where it is none of these the nodes are too many
abbrev pub limited_at : Cause → Sought → Data → Option Telling
limited_at cause sought d = option_map (at_site cause) (first_of sought d)

abbrev pub limited_in : Data → Option Telling
limited_in d =
    if (faults_of (known_settings d)).limit
    then Some (in_keys cause.Limit (settings_wrong fault.Limit d)) else None

abbrev pub too_many : List ℕ
too_many = codes "there are more nodes than a plan may have: 256 in version 1, and else 1024"

unfoldable pub limited : Data → Telling
limited d =
    unwrap_or (option_or (limited_at cause.Limit (sought.Own fault.Limit) d)
    (option_or (limited_in d)
    (option_or (limited_at cause.Depth (sought.Below MOST_DEPTH) d)
    (limited_at cause.Misplaced (sought.Ahead false) d))))
    (of_whole cause.Size too_many)

-- of a bulk whose job is none over elements
abbrev pub other_job_reason : List ℕ
other_job_reason = codes "the job of a bulk is none over elements"

abbrev pub with_other_job : Data → Telling
with_other_job d =
    option_map_or (at_site cause.OtherJob) (first_of sought.OtherJob d)
    (of_whole cause.OtherJob other_job_reason)

-- of settings that exclude each other
abbrev pub excluding : Data → Telling
excluding d = in_keys cause.Excluded (excluded d)

-- the place of node n of a plan, whose last node is its root
abbrev pub numbered_place : List Node → ℕ → List ℕ
numbered_place nodes n = at_path (way nodes MOST_DEPTH (length nodes - 1) (codes "root") n)

-- of node n of a plan, whose kinds don't match, by the signatures of its nodes
abbrev pub mismatched : List Node → List Sig → ℕ → Telling
mismatched nodes sigs n = record {
  cause = cause.Kinds;
  place = numbered_place nodes n;
  reason = mismatch_at nodes sigs n;
}

-- of a file as a whole
abbrev pub long_reason : List ℕ
long_reason = codes "the file has more than 1048576 bytes"

abbrev pub no_json : List ℕ
no_json = codes "the file is no UTF-8, no JSON, or nests more than 127 deep"
