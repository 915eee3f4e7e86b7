-- A walk over the nodes of a plan file: the nodes that it made so far, and what it found wrong.
use Rattle.std.specs.Prelude.{ℕ, zero, suc, ◌-◌, Bool, true, false, List, [], ◌∷◌, ◌++◌, length, Option, Some, None, option_and_then, if◌then◌else◌, codes}
use Rattle.std.specs.Option.{option_map_or}
use Rattle.serde_json.specs.Data.{Data, Items, no_items, item}
use Rattle.serde_json.specs.Find.{get, as_array}
use Rattle.exec_job.specs.Takes.{is_element}
use Rattle.exec_job.specs.declared.job.Job.{Job}
use Rattle.exec_job.specs.declared.job.Job.TheVariants.{Neg}
use Rattle.plan_rules.specs.declared.node.Node.{Node}
use Rattle.plan_rules.specs.declared.node.Node.TheVariants as node
use Rattle.plan_shape.specs.declared.fault.BuildFault.{BuildFault}
use Rattle.plan_shape.specs.Added.{with_node}
use Rattle.plan_parts.specs.declared.reading.Faults.{Faults}
use Rattle.plan_parts.specs.declared.reading.Reading.{Reading}
use Rattle.plan_parts.specs.declared.reading.Reading.TheVariants.{Good, Bad}
use Rattle.plan_parts.specs.declared.reading.TheConstants.{NO_FAULT, FORM_FAULT, NAME_FAULT, LIMIT_FAULT}
use Rattle.plan_parts.specs.Reading.{both, any_fault}
use Rattle.plan_parts.specs.Objects.{has_unknown_key, text_at}
use Rattle.plan_parts.specs.Jobs.{job_at}
use Rattle.plan_reader.specs.Limits.{node_limit}
use Rattle.plan_reader.specs.NodeWords.{node_named, node_keys}
use Rattle.plan_reader.specs.NodeParts.{leaf_node, adaptor_node, let_node}
use Rattle.plan_reader.specs.declared.node_word.Let.{Let as LetWord}
use Rattle.plan_reader.specs.declared.node_word.NodeWord.{NodeWord}
use Rattle.plan_reader.specs.declared.node_word.NodeWord.TheVariants.{Leaf, Adaptor, Let, Bulk, WhenAll, Ahead}

-- where a walk stands. `is_first` says that the plan is of version 1, and `elements` that the job
-- of each bulk so far is an element job.
pub record Walked : Type 0 where
  pub nodes : List Node
  pub elements : Bool
  pub faults : Faults
  pub is_first : Bool

-- before the first node
abbrev pub at_start : Bool → Walked
at_start is_first = record { nodes = []; elements = true; faults = NO_FAULT; is_first = is_first }

-- these faults were found
abbrev pub blame : Faults → Walked → Walked
blame faults w = record w { faults = both w.faults faults }

-- the number of the node that was made last
abbrev pub last : Walked → ℕ
last w = length w.nodes - 1

-- a node is made, where nothing was wrong so far and it passes no limit
abbrev pub made : Option BuildFault → Node → Walked → Walked
made None n w = record w { nodes = with_node w.nodes n }
made (Some fault) n w = blame LIMIT_FAULT w

unfoldable pub make : Node → Walked → Walked
make n w = if any_fault w.faults then w else made (node_limit w.nodes n) n w

-- the node that was read is made
abbrev pub take : Reading Node → Walked → Walked
take (Good n) w = make n w
take (Bad faults) w = blame faults w

-- a bulk with this job over a child. A job that is no element job is noted, and another stands in
-- for it, so that the nodes are still numbered; such a plan is refused for its kinds.
abbrev pub make_bulk : ℕ → Job → Walked → Walked
make_bulk child job w =
    if is_element job then make (node.Bulk child job) w
    else make (node.Bulk child Neg) (record w { elements = false })

abbrev pub take_bulk : ℕ → Reading Job → Walked → Walked
take_bulk child (Good job) w = make_bulk child job w
take_bulk child (Bad faults) w = blame faults w

-- an object's keys are these: another is a fault
abbrev pub check_keys : List (List ℕ) → Data → Walked → Walked
check_keys known d w = if has_unknown_key known d then blame NAME_FAULT w else w

-- how a walk goes on below a node
abbrev pub Below : Type 0
Below = Data → Walked → Walked

-- below a node at this key
unfoldable pub child_at : Below → List ℕ → Data → Walked → Walked
child_at below key d w = option_map_or (λ child. below child w) (get key d) (blame FORM_FAULT w)

-- a walk, and the numbers of some nodes that it made
pub record Listed : Type 0 where
  pub walked : Walked
  pub numbers : List ℕ

-- one node more
abbrev pub with_child : Below → Data → Listed → Listed
with_child below d l = with_number l.numbers (below d l.walked) where
  with_number : List ℕ → Walked → Listed
  with_number numbers w = record { walked = w; numbers = numbers ++ last w ∷ [] }

-- all of these, in order
abbrev pub each : Below → Items → Listed → Listed
each below no_items l = l
each below (item d ds) l = each below ds (with_child below d l)

-- below the nodes in the array at this key
abbrev pub none_listed : Walked → Listed
none_listed w = record { walked = w; numbers = [] }

unfoldable pub list_at : Below → List ℕ → Data → Walked → Listed
list_at below key d w =
    option_map_or (λ ds. each below ds (none_listed w)) (option_and_then as_array (get key d))
    (none_listed (blame FORM_FAULT w))

-- a node over one child: the child first
abbrev pub over_child : (ℕ → Walked → Walked) → Walked → Walked
over_child finish w = finish (last w) w

abbrev pub let_over : LetWord → Data → ℕ → Listed → Walked
let_over binding d child l = take (let_node binding d child l.numbers) l.walked

abbrev pub all_over : Listed → Walked
all_over l = make (node.WhenAll l.numbers) l.walked

abbrev pub ahead_over : ℕ → Walked → Walked
ahead_over first w = make (node.Ahead first (last w)) w

-- the parts of a node by its name: its children first, then the node itself
unfoldable pub parts : Below → NodeWord → Data → Walked → Walked
parts below (Leaf leaf) d w = take (leaf_node leaf d) w
parts below (Adaptor adaptor) d w =
    over_child (λ child v. take (adaptor_node adaptor d child) v)
    (child_at below (codes "child") d w)
parts below (Let binding) d w =
    over_child (λ child v. let_over binding d child (list_at below (codes "bodies") d v))
    (child_at below (codes "child") d w)
parts below Bulk d w =
    over_child (λ child v. take_bulk child (job_at (codes "job") d) v)
    (child_at below (codes "child") d w)
parts below WhenAll d w = all_over (list_at below (codes "children") d w)
parts below Ahead d w =
    over_child (λ first v. ahead_over first (child_at below (codes "second") d v))
    (child_at below (codes "first") d w)

-- a node whose name is known
abbrev pub known_node : Below → NodeWord → Data → Walked → Walked
known_node below word d w = parts below word d (check_keys (node_keys word) d w)

-- a node by its name; of one whose name isn't known nothing else is read
abbrev pub named_node : Below → Option NodeWord → Data → Walked → Walked
named_node below (Some word) d w = known_node below word d w
named_node below None d w = blame NAME_FAULT w

-- a node, at most so many levels deep: it needs a name that is a string
unfoldable pub walk : ℕ → Data → Walked → Walked
walk zero d w = blame LIMIT_FAULT w
walk (suc levels) d w =
    option_map_or (λ name. named_node (walk levels) (node_named w.is_first name) d w)
    (text_at (codes "do") d) (blame FORM_FAULT w)
