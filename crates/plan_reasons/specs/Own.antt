-- What is wrong with a node of a plan file apart from the nodes below it.
use Rattle.std.specs.Prelude.{ℕ, suc, Bool, false, not, List, Option, Some, None, option_and_then, if◌then◌else◌, codes}
use Rattle.std.specs.Option.{option_map_or}
use Rattle.serde_json.specs.Data.{Data, Items, no_items, item}
use Rattle.serde_json.specs.Find.{as_array, get}
use Rattle.exec_job.specs.declared.job.Job.{Job}
use Rattle.exec_job.specs.Takes.{is_element}
use Rattle.plan_shape.specs.declared.limits.TheConstants.{FEWEST_CHILDREN, MOST_BODIES, MOST_CHILDREN}
use Rattle.plan_shape.specs.Conditions.{is_within}
use Rattle.plan_parts.specs.declared.reading.Faults.{Faults}
use Rattle.plan_parts.specs.declared.reading.Reading.{Reading}
use Rattle.plan_parts.specs.declared.reading.Reading.TheVariants.{Good, Bad}
use Rattle.plan_parts.specs.declared.reading.TheConstants.{FORM_FAULT, LIMIT_FAULT, NAME_FAULT, NO_FAULT}
use Rattle.plan_parts.specs.Jobs.{job_at}
use Rattle.plan_parts.specs.Objects.{has_unknown_key, text_at}
use Rattle.plan_parts.specs.Reading.{both}
use Rattle.plan_reader.specs.declared.node_word.NodeWord.{NodeWord}
use Rattle.plan_reader.specs.declared.node_word.NodeWord.TheVariants.{Leaf, Adaptor, Let, Bulk, WhenAll, Ahead}
use Rattle.plan_reader.specs.NodeParts.{adaptor_node, leaf_node}
use Rattle.plan_reader.specs.NodeWords.{node_keys, node_named}
use Rattle.plan_reasons.specs.declared.own.Fault.{Fault}
use Rattle.plan_reasons.specs.declared.own.Fault.TheVariants.{Form, Name, Limit}

-- one of the faults is among these
abbrev pub has : Fault → Faults → Bool
has Form faults = faults.form
has Name faults = faults.name
has Limit faults = faults.limit

-- the node that the name of a value is of, in a plan of version 1 or of a later one
abbrev pub node_word_at : Bool → Data → Option NodeWord
node_word_at is_first d = option_and_then (node_named is_first) (text_at (codes "do") d)

-- what is wrong with a part
abbrev pub faults_of : {A : Type 0} → Reading A → Faults
faults_of (Good a) = NO_FAULT
faults_of (Bad faults) = faults

-- a key that isn't one of these
abbrev pub key_faults : List (List ℕ) → Data → Faults
key_faults known d = if has_unknown_key known d then NAME_FAULT else NO_FAULT

-- the key of a node below isn't there
abbrev pub child_faults : List ℕ → Data → Faults
child_faults key d = option_map_or (λ child. NO_FAULT) (get key d) FORM_FAULT

-- the key of an array of nodes isn't there, or they are too few or too many
abbrev pub item_count : Items → ℕ
item_count no_items = 0
item_count (item d ds) = suc (item_count ds)

abbrev pub count_faults : ℕ → ℕ → Items → Faults
count_faults fewest most ds =
    if is_within fewest most (item_count ds) then NO_FAULT else LIMIT_FAULT

abbrev pub list_faults : ℕ → ℕ → List ℕ → Data → Faults
list_faults fewest most key d =
    option_map_or (count_faults fewest most) (option_and_then as_array (get key d)) FORM_FAULT

-- a node of this name: its own parts, and the keys of those below it
abbrev pub part_faults : NodeWord → Data → Faults
part_faults (Leaf leaf) d = faults_of (leaf_node leaf d)
part_faults (Adaptor adaptor) d =
    both (child_faults (codes "child") d) (faults_of (adaptor_node adaptor d 0))
part_faults (Let binding) d =
    both (child_faults (codes "child") d)
    (both (list_faults 1 MOST_BODIES (codes "bodies") d) (faults_of (job_at (codes "pick") d)))
part_faults Bulk d = both (child_faults (codes "child") d) (faults_of (job_at (codes "job") d))
part_faults WhenAll d = list_faults FEWEST_CHILDREN MOST_CHILDREN (codes "children") d
part_faults Ahead d = both (child_faults (codes "first") d) (child_faults (codes "second") d)

-- a node whose name isn't known has no other fault
abbrev pub named_faults : Option NodeWord → Data → Faults
named_faults (Some word) d = both (key_faults (node_keys word) d) (part_faults word d)
named_faults None d = NAME_FAULT

-- a node: it needs a name that is a string
unfoldable pub own_faults : Bool → Data → Faults
own_faults is_first d =
    option_map_or (λ name. named_faults (node_named is_first name) d) (text_at (codes "do") d)
    FORM_FAULT

-- a job that was read, and is none over elements
abbrev pub is_other_job : Reading Job → Bool
is_other_job (Good job) = not (is_element job)
is_other_job (Bad faults) = false

-- a bulk with such a job
abbrev pub bars_bulk : Option NodeWord → Data → Bool
bars_bulk (Some Bulk) d = is_other_job (job_at (codes "job") d)
bars_bulk word d = false
