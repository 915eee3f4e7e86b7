-- Nodes as JSON objects, their keys in the order of the bytes.
use Rattle.std.specs.Prelude.{ℕ, List, [], ◌∷◌, map, codes}
use Rattle.serde_json.specs.Data.{Data, null, number, unsigned, string, array, object, Members, no_members, put}
use Rattle.serde_json.specs.View.{items_of}
use Rattle.exec_value.specs.declared.kinds.Kind.{Kind}
use Rattle.exec_value.specs.declared.kinds.Kind.TheVariants.{Int, Text, Row, MaybeInt, MaybeText}
use Rattle.node_tree.specs.declared.context.Context.{Context}
use Rattle.node_tree.specs.declared.context.Context.TheVariants.{Loop, Pool}
use Rattle.plan_rules.specs.declared.node.Query.{Query}
use Rattle.plan_rules.specs.declared.node.Query.TheVariants.{Stop, Record}
use Rattle.plan_rules.specs.declared.node.Node.{Node}
use Rattle.plan_rules.specs.declared.node.Node.TheVariants.{Input, Just, JustError, JustStopped, Schedule, Delay, ReadEnv, Then, UponError, UponStopped, LetValue, LetError, LetStopped, StartsOn, ContinuesOn, StoppedAsOptional, StoppedAsError, Bulk, WhenAll, Part, Unstoppable, Ahead}
use Rattle.plan_rules.specs.Tables.{by_node}
use Rattle.plan_writer.specs.declared.below.Below.{Below}
use Rattle.plan_writer.specs.declared.below.Below.TheVariants as below
use Rattle.plan_writer.specs.Values.{constants_data, named}
use Rattle.plan_writer.specs.Jobs.{job_data}

-- the names of the contexts, the queries, and the kinds; a maybe kind is called as the kind that
-- may be missing
abbrev pub context_name : Context → List ℕ
context_name Loop = codes "loop"
context_name Pool = codes "pool"

abbrev pub query_name : Query → List ℕ
query_name Stop = codes "stop"
query_name Record = codes "record"

abbrev pub kind_name : Kind → List ℕ
kind_name Int = codes "int"
kind_name Text = codes "text"
kind_name Row = codes "row"
kind_name MaybeInt = codes "int"
kind_name MaybeText = codes "text"

-- a node's name at the key `do`, alone or with one more member
abbrev pub plain_node : List ℕ → Members
plain_node name = named (codes "do") name

abbrev pub node_with : List ℕ → List ℕ → Data → Members
node_with name key value = put key value (plain_node name)

-- what a node's object says beside its children; no object says a part of a bulk
abbrev pub own_members : Node → Members
own_members Input = plain_node (codes "input")
own_members (Just values) = node_with (codes "just") (codes "values") (constants_data values)
own_members (JustError error) = node_with (codes "just_error") (codes "error") (string error)
own_members JustStopped = plain_node (codes "just_stopped")
own_members (Schedule on) = node_with (codes "schedule") (codes "on") (string (context_name on))
own_members (Delay turns) = node_with (codes "delay") (codes "turns") (number (unsigned turns))
own_members (ReadEnv query) = node_with (codes "read_env") (codes "query")
    (string (query_name query))
own_members (Then child job) = node_with (codes "then") (codes "job") (job_data job)
own_members (UponError child job) = node_with (codes "upon_error") (codes "job") (job_data job)
own_members (UponStopped child job) = node_with (codes "upon_stopped") (codes "job") (job_data job)
own_members (LetValue child pick bodies) = node_with (codes "let_value") (codes "pick")
    (job_data pick)
own_members (LetError child pick bodies) = node_with (codes "let_error") (codes "pick")
    (job_data pick)
own_members (LetStopped child pick bodies) = node_with (codes "let_stopped") (codes "pick")
    (job_data pick)
own_members (StartsOn on child) = node_with (codes "starts_on") (codes "on")
    (string (context_name on))
own_members (ContinuesOn child on) = node_with (codes "continues_on") (codes "on")
    (string (context_name on))
own_members (StoppedAsOptional child of) =
    node_with (codes "stopped_as_optional") (codes "of") (string (kind_name of))
own_members (StoppedAsError child error) =
    node_with (codes "stopped_as_error") (codes "error") (string error)
own_members (Bulk child job) = node_with (codes "bulk") (codes "job") (job_data job)
own_members (WhenAll children) = plain_node (codes "when_all")
own_members (Part bulk part) = no_members
own_members (Unstoppable child) = plain_node (codes "unstoppable")
own_members (Ahead first second) = plain_node (codes "ahead")

-- at which keys the node's children stand
abbrev pub below_of : Node → Below
below_of (Then child job) = below.Child child
below_of (UponError child job) = below.Child child
below_of (UponStopped child job) = below.Child child
below_of (LetValue child pick bodies) = below.ChildAndBodies child
below_of (LetError child pick bodies) = below.ChildAndBodies child
below_of (LetStopped child pick bodies) = below.ChildAndBodies child
below_of (StartsOn on child) = below.Child child
below_of (ContinuesOn child on) = below.Child child
below_of (StoppedAsOptional child of) = below.Child child
below_of (StoppedAsError child error) = below.Child child
below_of (Bulk child job) = below.Child child
below_of (WhenAll children) = below.Children
below_of (Unstoppable child) = below.Child child
below_of (Ahead first second) = below.Pair first second
below_of node = below.Nothing

-- the children that stand in an array
abbrev pub listed : Node → List ℕ
listed (LetValue child pick bodies) = bodies
listed (LetError child pick bodies) = bodies
listed (LetStopped child pick bodies) = bodies
listed (WhenAll children) = children
listed node = []

-- all children, in order
abbrev pub children_named : Below → List ℕ → List ℕ
children_named below.Nothing list = []
children_named (below.Child child) list = child ∷ []
children_named (below.ChildAndBodies child) list = child ∷ list
children_named below.Children list = list
children_named (below.Pair first second) list = first ∷ second ∷ []

-- the values of these nodes, in an array
abbrev pub list_data : (ℕ → Data) → List ℕ → Data
list_data value numbers = array (items_of (map value numbers))

-- the members with those of the children, whose values these are, some of them in an array
abbrev pub with_children : (ℕ → Data) → Below → List ℕ → Members → Members
with_children value below.Nothing list ms = ms
with_children value (below.Child child) list ms = put (codes "child") (value child) ms
with_children value (below.ChildAndBodies child) list ms =
    put (codes "bodies") (list_data value list) (put (codes "child") (value child) ms)
with_children value below.Children list ms = put (codes "children") (list_data value list) ms
with_children value (below.Pair first second) list ms =
    put (codes "second") (value second) (put (codes "first") (value first) ms)

-- a node's object, by the values of the nodes below it
abbrev pub node_object : Node → (ℕ → Data) → Data
node_object node value = object
    (with_children value (below_of node) (listed node) (own_members node))

-- node n as a JSON value
abbrev pub node_data : List Node → ℕ → Data
node_data nodes n = by_node null node_object nodes n
