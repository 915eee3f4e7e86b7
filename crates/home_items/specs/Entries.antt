-- A start, as a list of entries: that of its node, and then those of its parent's start. What is
-- read of a start is read of its first entry.
use Rattle.std.specs.Prelude.{ℕ, ◌-◌, nat_lt, if◌then◌else◌, ℤ, pos, Bool, false, List, [], ◌∷◌, length, slice_get, Option, Some, None}
use Rattle.exec_value.specs.declared.kinds.Kind.TheVariants.{Int}
use Rattle.exec_value.specs.declared.data.Datum.{Datum}
use Rattle.exec_value.specs.declared.data.Datum.TheVariants.{Row}
use Rattle.node_tree.specs.declared.scope_kind.ScopeKind.TheVariants.{Simple}
use Rattle.plan_rules.specs.declared.node.Node.{Node}
use Rattle.plan_rules.specs.declared.node.Node.TheVariants.{Part}
use Rattle.plan_shape.specs.Blueprint.{Blueprint}
use Rattle.home_items.specs.declared.entry.Entry.{Entry}
use Rattle.home_items.specs.Shares.{part_args}

-- no node and no rule: the plan of no start
abbrev pub no_plan : Blueprint
no_plan = record {
  nodes = [];
  settings = record {
    version = 1;
    input = Int;
    scope = Simple;
    stop_after = None;
    on_error_stop = false;
  };
}

abbrev pub plan_of : List Entry → Blueprint
plan_of [] = no_plan
plan_of (e ∷ above) = e.plan

abbrev pub node_of : List Entry → ℕ
node_of [] = 0
node_of (e ∷ above) = e.node

abbrev pub args_of : List Entry → List Datum
args_of [] = []
args_of (e ∷ above) = e.args

abbrev pub record_number : List Entry → ℕ
record_number [] = 0
record_number (e ∷ above) = e.number

-- the request was made before the operation was started
abbrev pub asked_of : List Entry → Bool
asked_of [] = false
asked_of (e ∷ above) = e.asked

-- the whole row, where the node is a part of a bulk
abbrev pub whole_row : List Entry → List ℤ
whole_row [] = []
whole_row (e ∷ above) = e.whole

-- the child that a start of the receiver node names
abbrev pub child_of : List Entry → Option ℕ
child_of [] = None
child_of (e ∷ above) = e.child

-- the number of the node above
abbrev pub node_above : List Entry → Option ℕ
node_above [] = None
node_above (e ∷ []) = None
node_above (e ∷ p ∷ above) = Some p.node

-- the node that an entry is of, where it isn't the receiver node
abbrev pub plan_node : Entry → Option Node
plan_node e = slice_get e.plan.nodes e.node

-- the start of the receiver node with which a record's operation begins: it names the plan's root
abbrev pub record_start : Blueprint → List Datum → ℕ → Bool → List Entry
record_start plan args number asked = record {
  plan = plan;
  node = length plan.nodes;
  args = args;
  number = number;
  asked = asked;
  whole = [];
  child = Some (length plan.nodes - 1);
} ∷ []

-- the same start, but that it names another child
abbrev pub start_naming : ℕ → List Entry → List Entry
start_naming child [] = []
start_naming child (e ∷ above) = record e { child = Some child } ∷ above

-- the start of a child, with the plan and the record number of the start above it
abbrev pub start_below : ℕ → List Datum → List ℤ → Bool → List Entry → List Entry
start_below node args whole asked above = record {
  plan = plan_of above;
  node = node;
  args = args;
  number = record_number above;
  asked = asked;
  whole = whole;
  child = None;
} ∷ above

-- The lot of a row that a bulk cuts into parts, that of no row, and that of a part for which the
-- row has no number. They differ, and none is empty.
abbrev pub row_lot : List ℤ → List ℤ
row_lot row = pos 1 ∷ row

abbrev pub no_row : List ℤ
no_row = pos 0 ∷ []

abbrev pub no_share : List ℤ
no_share = pos 2 ∷ []

-- what a child draws: a part the row, where that has a number for it, every other child no row
abbrev pub drawn_by : Option Node → List ℤ → List ℤ
drawn_by (Some (Part bulk part)) whole =
    if nat_lt part (length whole) then row_lot whole else no_share
drawn_by _ whole = no_row

-- What the start of a child draws of its parent's item, by the node that the parent's plan has
-- there. The start of the receiver node draws nothing.
abbrev pub drawn_of : List Entry → List ℤ
drawn_of [] = []
drawn_of (e ∷ []) = []
drawn_of (e ∷ p ∷ above) = drawn_by (slice_get p.plan.nodes e.node) e.whole

-- The data with which a node runs: of a part its bulk's whole row, which all parts share, and of
-- every other node its arguments.
abbrev pub carried_by : Option Node → Entry → List Datum
carried_by (Some (Part bulk part)) e = Row e.whole ∷ []
carried_by _ e = e.args

abbrev pub carried_of : List Entry → List Datum
carried_of [] = []
carried_of (e ∷ above) = carried_by (plan_node e) e

-- the numbers of data that are one row
abbrev pub row_in : List Datum → List ℤ
row_in (Row numbers ∷ []) = numbers
row_in carried = []

-- the start of a child that runs with these data: a part has its share of the row
abbrev pub begun_with : Option Node → ℕ → List Datum → Bool → List Entry → List Entry
begun_with (Some (Part bulk part)) node carried asked above =
    start_below node (part_args (row_in carried) part) (row_in carried) asked above
begun_with _ node carried asked above = start_below node carried [] asked above

abbrev pub start_with : ℕ → List Datum → Bool → List Entry → List Entry
start_with node carried asked above =
    begun_with (slice_get (plan_of above).nodes node) node carried asked above
