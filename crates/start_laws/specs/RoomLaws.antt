-- What there is room for, and what stands in place.
use Rattle.std.specs.Prelude.{◌⊎◌, ⊤, ◌≤◌, ◌<◌, Bool, List, length}
use Rattle.exec_value.specs.declared.limits.TheConstants.{DATA, INLINE_BYTES}
use Rattle.exec_value.specs.declared.data.Datum.{Datum}
use Rattle.exec_value.specs.declared.outcome.Completion.{Completion}
use Rattle.exec_value.specs.declared.outcome.Completion.TheVariants.{Value, Error}
use Rattle.plan_rules.specs.declared.node.Node.{Node}
use Rattle.plan_rules.specs.declared.node.Node.TheVariants.{WhenAll, Ahead}
use Rattle.plan_kinds.specs.Small.{IsSmall}
use Rattle.node_images.specs.Makes.{CompletesInPlace}
use Rattle.home_items.specs.declared.entry.Entry.{Entry}
use Rattle.home_items.specs.Entries.{plan_of}
use Rattle.home_items.specs.Parcels.{MayDeliver}
use Rattle.start_laws.specs.Nodes.{IsStartOf}

-- the node joins the values of its children
abbrev pub JoinsValues : Node → Type 0
JoinsValues (WhenAll children) = ⊤
JoinsValues (Ahead first second) = ⊤
JoinsValues node = ⊥

-- an error whose name doesn't stand in place
abbrev pub IsLongError : Completion → Type 0
IsLongError (Error name) = INLINE_BYTES < length name
IsLongError done = ⊥

-- There is room for the values that a node joins, in one list of data. In a small plan all that a
-- node may deliver stands in place, save errors with long names.
pub record RoomIsThere : Type 0 where
  pub few : (start : List Entry) (node : Node) → IsStartOf start node → JoinsValues node →
      (saw : Bool) (values : List Datum) → MayDeliver start saw (Value values) →
      length values ≤ DATA
  pub in_place : (start : List Entry) (node : Node) → IsStartOf start node →
      IsSmall (plan_of start) → (saw : Bool) (done : Completion) → MayDeliver start saw done →
      CompletesInPlace done ⊎ IsLongError done
