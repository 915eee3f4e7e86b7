-- What is wrong with a node of a plan file.
use Rattle.std.specs.Prelude.{ℕ, Bool, true, false, ◌++◌, List, is_some, if◌then◌else◌, codes}
use Rattle.std.specs.Option.{option_map_or}
use Rattle.serde_json.specs.Data.{Data}
use Rattle.plan_shape.specs.declared.limits.TheConstants.{MOST_BODIES}
use Rattle.plan_parts.specs.Objects.{text_at}
use Rattle.plan_reader.specs.declared.node_word.Leaf.{Leaf as LeafWord}
use Rattle.plan_reader.specs.declared.node_word.Leaf.TheVariants.{Input, Just, JustError, JustStopped, Schedule, Delay, ReadEnv}
use Rattle.plan_reader.specs.declared.node_word.Adaptor.{Adaptor as AdaptorWord}
use Rattle.plan_reader.specs.declared.node_word.Adaptor.TheVariants.{Then, UponError, UponStopped, StartsOn, ContinuesOn, StoppedAsOptional, StoppedAsError, Unstoppable}
use Rattle.plan_reader.specs.declared.node_word.NodeWord.{NodeWord}
use Rattle.plan_reader.specs.declared.node_word.NodeWord.TheVariants.{Leaf, Adaptor, Let, Bulk, WhenAll, Ahead}
use Rattle.plan_reader.specs.NodeWords.{node_keys, node_named}
use Rattle.plan_reasons.specs.declared.own.Fault.{Fault}
use Rattle.plan_reasons.specs.declared.part.Part.{Part}
use Rattle.plan_reasons.specs.declared.part.Part.TheVariants as part
use Rattle.plan_reasons.specs.Jobs.{job_wrong_at}
use Rattle.plan_reasons.specs.Own.{child_faults, has, key_faults, list_faults}
use Rattle.plan_reasons.specs.Sentences.{needs, unknown_key, wrong_at, wrong_part}
use Rattle.plan_reasons.specs.Shown.{shown_text}

-- the nodes that version 1 has, and in a later one all
abbrev pub early_nodes : List ℕ
early_nodes =
    codes "nodes: input, just, just_error, just_stopped, schedule, delay, read_env, then, upon_error, upon_stopped, let_value, let_error, let_stopped, starts_on, continues_on, stopped_as_optional, stopped_as_error, bulk, when_all"

abbrev pub nodes : Bool → List ℕ
nodes true = early_nodes
nodes false = early_nodes ++ codes ", unstoppable, ahead"

-- a node whose name isn't known, or only in version 2
abbrev pub unknown_node : Bool → List ℕ → List ℕ
unknown_node is_first name =
    if is_some (node_named false name) then shown_text name ++ codes " is of version 2"
    else codes "unknown node " ++ (shown_text name ++ (codes "; " ++ nodes is_first))

-- the part of a node beside its name and those below it. Two leaves have none.
abbrev pub leaf_part : LeafWord → Part
leaf_part Input = part.Do
leaf_part Just = part.Values
leaf_part JustError = part.Error
leaf_part JustStopped = part.Do
leaf_part Schedule = part.On
leaf_part Delay = part.Turns
leaf_part ReadEnv = part.Query

abbrev pub adaptor_part : AdaptorWord → Part
adaptor_part Then = part.Job
adaptor_part UponError = part.Job
adaptor_part UponStopped = part.Job
adaptor_part StartsOn = part.On
adaptor_part ContinuesOn = part.On
adaptor_part StoppedAsOptional = part.Of
adaptor_part StoppedAsError = part.Error
adaptor_part Unstoppable = part.Child

abbrev pub adaptor_wrong : Fault → List ℕ → AdaptorWord → Data → List ℕ
adaptor_wrong fault who Then d = job_wrong_at fault false who part.Job d
adaptor_wrong fault who UponError d = job_wrong_at fault false who part.Job d
adaptor_wrong fault who UponStopped d = job_wrong_at fault false who part.Job d
adaptor_wrong fault who adaptor d = wrong_at who (adaptor_part adaptor) d

-- the node at a key isn't there, or what else is wrong
abbrev pub needs_or : Fault → List ℕ → Part → List ℕ → Data → List ℕ → List ℕ
needs_or fault who part key d other =
    if has fault (child_faults key d) then needs who part d else other

-- the bodies of a let, or its pick
abbrev pub let_wrong : Fault → List ℕ → Data → List ℕ
let_wrong fault who d =
    if has fault (list_faults 1 MOST_BODIES (codes "bodies") d) then wrong_at who part.Bodies d
    else job_wrong_at fault false who part.Pick d

-- a node of this name, whose keys are known
abbrev pub parts_wrong : Fault → List ℕ → NodeWord → Data → List ℕ
parts_wrong fault who (Leaf leaf) d = wrong_part fault who (leaf_part leaf) d
parts_wrong fault who (Adaptor adaptor) d =
    needs_or fault who part.Child (codes "child") d (adaptor_wrong fault who adaptor d)
parts_wrong fault who (Let binding) d =
    needs_or fault who part.Child (codes "child") d (let_wrong fault who d)
parts_wrong fault who Bulk d =
    needs_or fault who part.Child (codes "child") d (job_wrong_at fault true who part.Job d)
parts_wrong fault who WhenAll d = wrong_at who part.Children d
parts_wrong fault who Ahead d =
    needs_or fault who part.First (codes "first") d (needs who part.Second d)

abbrev pub known_wrong : Fault → List ℕ → NodeWord → Data → List ℕ
known_wrong fault who word d =
    if has fault (key_faults (node_keys word) d) then unknown_key who (node_keys word) d
    else parts_wrong fault who word d

-- a node, in a plan of version 1 or of a later one, that has the fault
abbrev pub named_wrong : Fault → Bool → Data → List ℕ → List ℕ
named_wrong fault is_first d name =
    option_map_or (λ word. known_wrong fault name word d) (node_named is_first name)
    (unknown_node is_first name)

unfoldable pub node_wrong : Fault → Bool → Data → List ℕ
node_wrong fault is_first d =
    option_map_or (named_wrong fault is_first d) (text_at (codes "do") d)
    (wrong_at (codes "a node") part.Do d)
