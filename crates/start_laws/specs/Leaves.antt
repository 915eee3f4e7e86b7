-- What a node completes with by itself: a factory, and a node that a stop request stops.
use Rattle.std.specs.Prelude.{⊤, Bool, List, []}
use Rattle.exec_value.specs.declared.outcome.Completion.{Completion}
use Rattle.exec_value.specs.declared.outcome.Completion.TheVariants.{Value, Error, Stopped}
use Rattle.plan_rules.specs.declared.node.Node.{Node}
use Rattle.plan_rules.specs.declared.node.Node.TheVariants.{Input, Just, JustError, JustStopped, Schedule, Delay, ReadEnv, StartsOn, ContinuesOn, WhenAll, Part}
use Rattle.plan_rules.specs.Bulks.{job_of_bulk, part_ending}
use Rattle.plan_rules.specs.Settle.{unless_asked, shown_of}
use Rattle.home_items.specs.declared.entry.Entry.{Entry}
use Rattle.home_items.specs.Entries.{plan_of, args_of, record_number}

-- the node has no child
abbrev pub IsLeaf : Node → Type 0
IsLeaf Input = ⊤
IsLeaf (Just values) = ⊤
IsLeaf (JustError name) = ⊤
IsLeaf JustStopped = ⊤
IsLeaf (Schedule on) = ⊤
IsLeaf (Delay turns) = ⊤
IsLeaf (ReadEnv query) = ⊤
IsLeaf (Part bulk part) = ⊤
IsLeaf node = ⊥

-- What it completes with for its start, where it found a request, or found none: the request that
-- was made before the operation was started is found too.
abbrev pub leaf_of : Node → Bool → List Entry → Completion
leaf_of Input found start = Value (args_of start)
leaf_of (Just values) found start = Value values
leaf_of (JustError name) found start = Error name
leaf_of (Schedule on) found start = unless_asked found (Value [])
leaf_of (Delay turns) found start = unless_asked found (Value [])
leaf_of (ReadEnv query) found start = shown_of query (record_number start) found
leaf_of (Part bulk part) found start =
    part_ending (job_of_bulk (plan_of start).nodes bulk) (args_of start)
leaf_of node found start = Stopped

-- A request stops the node, whatever its children do: it begins none, or drops what they delivered.
abbrev pub IsStoppable : Node → Type 0
IsStoppable (Schedule on) = ⊤
IsStoppable (Delay turns) = ⊤
IsStoppable (StartsOn on child) = ⊤
IsStoppable (ContinuesOn child on) = ⊤
IsStoppable (WhenAll children) = ⊤
IsStoppable node = ⊥
