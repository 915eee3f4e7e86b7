-- How many children a node must have begun when it is left with an item.
use Rattle.std.specs.Prelude.{ℕ, min, max, [], ◌∷◌, length, Option, Some, None}
use Rattle.exec_value.specs.declared.data.Datum.TheVariants.{Row}
use Rattle.exec_value.specs.declared.outcome.Completion.{Completion}
use Rattle.exec_value.specs.declared.outcome.Completion.TheVariants.{Value, Stopped, NoMemory}
use Rattle.plan_rules.specs.declared.node.Node.{Node}
use Rattle.plan_rules.specs.declared.node.Node.TheVariants.{StartsOn, ContinuesOn, Bulk, WhenAll}
use Rattle.plan_rules.specs.Children.{named_by}
use Rattle.plan_shape.specs.declared.limits.TheConstants.{BULK_PARTS}
use Rattle.home_items.specs.declared.item.Item.{Item}
use Rattle.home_items.specs.Contents.{Start, Rest, Done}
use Rattle.home_items.specs.Items.{item_node}
use Rattle.home_items.specs.Parcels.{Delivery}

-- A node that rests with its child's completion has begun that child; a bulk that rests with a row
-- has begun the parts of the row, and a `when_all` all its children.
abbrev pub least_at_rest : Option Node → Option Delivery → ℕ
least_at_rest (Some (WhenAll children)) kept = length children
least_at_rest _ None = 0
least_at_rest (Some (Bulk child job)) (Some parcel) = parts_of parcel.completion where
  parts_of : Completion → ℕ
  parts_of (Value (Row numbers ∷ [])) = min BULK_PARTS (length numbers)
  parts_of completion = 1
least_at_rest _ (Some parcel) = 1

-- A node that is done has begun a child where it has any, a bulk with a row as many as the row has
-- parts, and a `when_all` all. Want of memory may come before that, and so may the stop of a node
-- that hears of requests itself.
abbrev pub least_when_done : Option Node → Completion → ℕ
least_when_done _ NoMemory = 0
least_when_done (Some (StartsOn on child)) Stopped = 0
least_when_done (Some (ContinuesOn child on)) Stopped = 0
least_when_done (Some (WhenAll children)) Stopped = 0
least_when_done (Some (WhenAll children)) completion = length children
least_when_done (Some (Bulk child job)) (Value (Row numbers ∷ [])) =
    max 1 (min BULK_PARTS (length numbers))
least_when_done (Some node) completion = min 1 (length (named_by node))
least_when_done None completion = 1

abbrev pub least_of : Item → ℕ
least_of (Start start) = 0
least_of (Rest start kept) = least_at_rest (item_node (Rest start kept)) kept
least_of (Done parcel) = least_when_done (item_node (Done parcel)) parcel.completion
